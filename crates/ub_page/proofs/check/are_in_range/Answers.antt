use Rattle.std.proofs.Common.{◌≡◌, true}
use Rattle.ub_page.proofs.IndexFacts.{range_step}
use Rattle.ub_page.proofs.check.are_in_range.Goals as goal

pub returns-then-not-is_in_range : goal.returns-then-not-is_in_range
returns-then-not-is_in_range c =
    let step = range_step c.args.last c.loop-slot.slot c.args.count c.args.page.now c.loop-slot-test.true in (
      λ never. cc,
      λ all.
          let here = (step.0 (c.loop-slot.invariant.0 all)).0 in
          let yes : c.is_in_range.result ≡ true = c.is_in_range.ensures.1 (rw c.entry_at.ensures here) in
          let not_so = c.if-not-is_in_range.true in
          cc,
    )

pub loop-slot-preserved : goal.loop-slot-preserved
loop-slot-preserved c =
    let step = range_step c.args.last c.loop-slot.slot c.args.count c.args.page.now c.loop-slot-test.true in
    let here = rw c.entry_at.ensures at (c.is_in_range.ensures.0 c.if-not-is_in_range.false) in
    (λ all. (step.0 (c.loop-slot.invariant.0 all)).1, λ rest. c.loop-slot.invariant.1 (step.1 (here, rest)))
