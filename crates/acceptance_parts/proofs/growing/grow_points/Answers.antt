use Rattle.std.proofs.Common.{◌+◌, List, arith, subst, sym}
use Rattle.acceptance_parts.proofs.GrowingFacts.{ascend_more, in_order}
use Rattle.acceptance_parts.proofs.growing.grow_points.Goals as goal
use Rattle.ub_growing.specs.Growing.{AscendWithin}
use Rattle.ub_table.specs.declared.row.Row.{Row}

pub loop-i-preserved : goal.loop-i-preserved
loop-i-preserved c =
    let less = c.loop-i-test.true in
    let few = c.requires in
    subst (λ (rows : List Row). AscendWithin 0 (c.loop-i.i + 1 + 1) rows) (sym c.in_ok-push.ensures.items)
    (ascend_more 0 (c.loop-i.i + 1) (c.loop-i.i + 1 + 1) c.loop-i.rows.items _ c.loop-i.invariant (omega (arith, less, few)) (omega (arith, less, few)))

pub grow-requires-clause-numbers : goal.grow-requires-clause-numbers
grow-requires-clause-numbers c = in_order 0 (c.loop-i.i + 1) c.loop-i.rows.items c.loop-i.invariant
