use Rattle.std.proofs.Common.{◌++◌, ◌∷◌, [], drop}
use Rattle.ub_boxes.specs.inner.Fronts as spec
use Rattle.ub_boxes.specs.Truths as truth
use Rattle.ub_boxes.specs.inner.Runs.{AreUpTo}
use Rattle.ub_boxes.proofs.covering.add_runs.Given as goal

abbrev pub invariant-loop-interval : goal.invariant-loop-interval
invariant-loop-interval l =
    AreUpTo (spec.widened l.front) (spec.after l.front (truth.covers l.schema (truth.shape_of l.filter)))
    l.run (drop l.interval-index l.side) l.boxes.items
    (l.initial.boxes.items ++ spec.boxes_from (truth.covers l.schema (truth.shape_of l.filter)) l.front (l.side ∷ []))
