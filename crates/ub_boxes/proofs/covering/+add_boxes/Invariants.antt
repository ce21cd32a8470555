use Rattle.std.proofs.Common.{◌≡◌, ◌++◌, length, take}
use Rattle.std.specs.List.{flat_map}
use Rattle.ub_boxes.specs.inner.Fronts as spec
use Rattle.ub_boxes.specs.Truths as truth
use Rattle.ub_boxes.proofs.covering.+add_boxes.Given as goal

abbrev pub decreases-add_boxes : goal.decreases-add_boxes
decreases-add_boxes l = length l.sides.now

abbrev pub invariant-loop-interval : goal.invariant-loop-interval
invariant-loop-interval l = l.boxes.items ≡ l.initial.boxes.items ++ flat_map (λ interval.
    spec.boxes_from (truth.covers l.schema (truth.shape_of l.filter)) (spec.widened l.front interval) l.others) (take l.interval-index l.interval-items)
