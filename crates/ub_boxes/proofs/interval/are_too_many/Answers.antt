use Rattle.std.proofs.Common.{arith}
use Rattle.std.proofs.lemmas.Grind.{common_steps}
use Rattle.ub_boxes.proofs.GridFacts.{count_next}
use Rattle.ub_boxes.proofs.interval.are_too_many.Goals as goal

pub loop-side-preserved : goal.loop-side-preserved
loop-side-preserved c =
    let is = rw c.as_slice.ensures at c.saturating_mul-cells.ensures in
    count_next c.args.sides.now c.loop-side.side-index c.loop-side.cells _ c.saturating_mul-cells.result c.side-item.result
    c.requires c.loop-side-test.true c.side-item.is is c.loop-side.invariant

pub returns : goal.returns
returns c = grind (arith, common_steps)
