use Rattle.std.proofs.Common.{◌≡◌}
use Rattle.ub_script.proofs.ChangeFacts.{coordinates_to}
use Rattle.ub_script.proofs.changing.coordinates.Given as goal

-- the coordinates so far
abbrev pub invariant-loop-dim : goal.invariant-loop-dim
invariant-loop-dim l = record {
  items : l.dims.items ≡ coordinates_to l.schema l.dim l.values;
}
