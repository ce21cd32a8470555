use Rattle.std.proofs.Common.{◌≡◌, ◌+◌, ◌<◌, ◌^◌, drop}
use Rattle.ub_boxes.specs.Points as spec
use Rattle.ub_boxes.proofs.size.total.Given as goal

abbrev pub invariant-loop-space : goal.invariant-loop-space
invariant-loop-space l = record {
  part : l.total + spec.total (drop l.space-index l.boxes) ≡ spec.total l.boxes;
  fits : l.total < 2 ^ 128;
}
