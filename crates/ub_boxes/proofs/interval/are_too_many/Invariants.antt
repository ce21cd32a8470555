use Rattle.std.proofs.Common.{drop}
use Rattle.ub_boxes.specs.Grid.{number_of_cells}
use Rattle.ub_boxes.specs.inner.Counts.{IsCountOf}
use Rattle.ub_boxes.proofs.interval.are_too_many.Given as goal

abbrev pub invariant-loop-side : goal.invariant-loop-side
invariant-loop-side l = IsCountOf l.cells (number_of_cells (drop l.side-index l.sides)) (number_of_cells l.sides)
