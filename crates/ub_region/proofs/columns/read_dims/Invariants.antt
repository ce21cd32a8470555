use Rattle.std.proofs.Common.{◌+◌, ◌*◌, map}
use Rattle.ub_bytes.specs.Bytes.{number_at}
use Rattle.std.specs.List.{range_with_len}
use Rattle.ub_region.proofs.PlacesFacts.{AreSoFar}
use Rattle.ub_region.specs.Columns.{blank_dims}
use Rattle.ub_region.proofs.columns.read_dims.Given as goal

abbrev pub invariant-loop-dim : goal.invariant-loop-dim
invariant-loop-dim l = AreSoFar 4 blank_dims (λ d. map (λ i. number_at 4 (l.offset + 4 * (l.count * d + i)) l.page) (range_with_len 0 64)) l.dim l.dims l.columns
