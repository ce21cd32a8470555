use Rattle.std.proofs.Common.{[], ◌∙◌, sym, subst}
use Rattle.std.specs.Prelude.{List, ℕ}
use Rattle.ub_writing.proofs.HeldFacts.{put_header_of, put_held}
use Rattle.ub_writing.specs.Puts.{IsPutPage}
use Rattle.ub_writing.proofs.order.put_header.Goals as goal

pub returns-clause-held : goal.returns-clause-held
returns-clause-held g c =
    put_held (IsPutPage []) 0 c.page.result.now _ _ c.put.result
    (subst (λ (page : List ℕ). IsPutPage [] page) (sym (c.page.ensures ∙ c.write_header.ensures.page)) (put_header_of [] c.args.header.now c.write_header.ensures.header))
    c.put.ensures.renewed c.put.ensures.forgotten c.put.ensures.others
