use Rattle.std.proofs.Common.{◌≤◌, ◌∙◌, List, ap, length, subst, sym}
use Rattle.std.specs.List.{All}
use Rattle.ub_answer.specs.Held.{lines}
use Rattle.ub_query.specs.Posed.{IsItemOver}
use Rattle.ub_query.specs.declared.query.Item.{Item}
use Rattle.ub_exec.proofs.sweeping.result_of.Goals as goal

pub of_rows-requires-clause-over : goal.of_rows-requires-clause-over
of_rows-requires-clause-over c =
    subst (λ (items : List Item). All (λ item. IsItemOver (length c.args.schema.now.columns) item) items) (sym c.as_slice.ensures) c.requires.items

pub of_rows-requires-clause-few : goal.of_rows-requires-clause-few
of_rows-requires-clause-few c =
    subst (λ (items : List Item). length items ≤ 8) (sym c.as_slice.ensures) c.requires.few_items

pub returns : goal.returns
returns c =
    c.of_rows.ensures ∙ ap (λ (items : List Item). lines c.args.schema.now items c.args.rows.items) c.as_slice.ensures
