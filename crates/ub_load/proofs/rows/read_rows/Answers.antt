use Rattle.std.proofs.Common.{◌∙◌, ℕ, List, ap, length, refl, take}
use Rattle.ub_load.proofs.ExitFacts.{fault_so, value_so}
use Rattle.std.proofs.lemmas.Result.{err_from_is_err_and}
use Rattle.ub_load.proofs.rows.read_rows.Goals as goal

pub returns-in_err-places-clause-refused : goal.returns-in_err-places-clause-refused
returns-in_err-places-clause-refused c =
    let p = err_from_is_err_and c.from_residual.result c.from_residual.ensures.1 in
    rw (p.1, p.2) (c.in_err-places.ensures.refused c.args.next c.args.text.now (c.reader_of-reader.ensures c.args.text.now refl))

pub take_rows-requires-clause-fine : goal.take_rows-requires-clause-fine
take_rows-requires-clause-fine c = c.in_ok-places.ensures.fine

pub take_rows-requires-clause-places : goal.take_rows-requires-clause-places
take_rows-requires-clause-places c =
    ap (λ (columns : List (List ℕ)). take (length columns) c.in_ok-places.places) c.columns.ensures.columns ∙ c.in_ok-places.ensures.places

pub returns-clause-rows : goal.returns-clause-rows
returns-clause-rows c =
    value_so _ _ c.take_rows.result c.take_rows.ensures.rows (λ rows h. h c.args.text.now (c.in_ok-places.ensures.read c.args.text.now (c.reader_of-reader.ensures c.args.text.now refl)))

pub returns-clause-suit : goal.returns-clause-suit
returns-clause-suit c = c.take_rows.ensures.suit

pub returns-clause-refused : goal.returns-clause-refused
returns-clause-refused c =
    fault_so _ _ c.take_rows.result c.take_rows.ensures.refused (λ f h. h c.args.text.now (c.in_ok-places.ensures.read c.args.text.now (c.reader_of-reader.ensures c.args.text.now refl)))
