use Rattle.std.proofs.Common.{◌≡◌, ◌++◌, drop}
use Rattle.ub_boxes.specs.Grid as spec
use Rattle.ub_boxes.specs.inner.Sides.{AreCuts}
use Rattle.ub_boxes.proofs.interval.intervals.Given as goal

abbrev pub invariant-loop-cut : goal.invariant-loop-cut
invariant-loop-cut l = record {
  built : l.intervals.items ++ spec.intervals l.low (drop l.cut-index l.cuts) ≡ spec.intervals 0 l.cuts;
  ahead : AreCuts l.low (drop l.cut-index l.cuts);
}
