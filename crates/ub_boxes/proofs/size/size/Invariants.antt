use Rattle.std.proofs.Common.{◌≡◌, ◌*◌, ◌<◌, ◌^◌, drop}
use Rattle.ub_boxes.specs.Points as spec
use Rattle.ub_boxes.proofs.size.size.Given as goal

abbrev pub invariant-loop-dim : goal.invariant-loop-dim
invariant-loop-dim l = record {
  part : l.size * spec.lists_between (drop l.dim l.lo) (drop l.dim l.hi) ≡ spec.lists_between l.lo l.hi;
  fits : l.size < 2 ^ 128;
}
