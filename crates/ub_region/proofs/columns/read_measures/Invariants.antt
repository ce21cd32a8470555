use Rattle.std.proofs.Common.{◌+◌, ◌*◌, map}
use Rattle.std.specs.Int.{w64, cast_signed}
use Rattle.ub_bytes.specs.Bytes.{number_at}
use Rattle.std.specs.List.{range_with_len}
use Rattle.ub_region.proofs.PlacesFacts.{AreSoFar}
use Rattle.ub_region.specs.Columns.{blank_measures}
use Rattle.ub_region.proofs.columns.read_measures.Given as goal

abbrev pub invariant-loop-measure : goal.invariant-loop-measure
invariant-loop-measure l = AreSoFar 4 blank_measures (λ d. map (λ i. cast_signed w64 (number_at 8 (l.offset + 8 * (l.count * d + i)) l.page)) (range_with_len 0 64)) l.measure l.measures l.columns
