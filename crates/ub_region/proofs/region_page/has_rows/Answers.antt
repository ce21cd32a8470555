use Rattle.ub_region.proofs.KeysFacts.{numbered}
use Rattle.ub_region.proofs.region_page.has_rows.Goals as goal

pub returns-then-is_first : goal.returns-then-is_first
returns-then-is_first c =
    let all = numbered c.args.region.now.region.rows in
    let first = rw c.first.ensures at (c.is_first.ensures.0 c.if-is_first.true) in (
      (λ yes. (first, all.0 (rw c.numbers.ensures.numbers at (c.are_numbered.ensures.0 yes)))),
      (λ h. c.are_numbered.ensures.1 (rw c.numbers.ensures.numbers (all.1 h.1))),
    )
