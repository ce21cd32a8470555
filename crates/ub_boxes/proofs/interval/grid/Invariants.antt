use Rattle.std.proofs.Common.{◌≡◌}
use Rattle.ub_boxes.specs.Grid as spec
use Rattle.ub_boxes.specs.Truths.{shape_of}
use Rattle.ub_boxes.proofs.interval.grid.Given as goal

abbrev pub invariant-loop-dim : goal.invariant-loop-dim
invariant-loop-dim l = l.sides.items ≡ spec.sides l.schema (shape_of l.filter) l.dim
