use Rattle.std.proofs.Common.{◌*◌}
use Rattle.ub_region.proofs.LaneFacts.{IsMaskTo}
use Rattle.ub_region.proofs.masks.mask_of_all.Given as goal

abbrev pub invariant-loop-chunk : goal.invariant-loop-chunk
invariant-loop-chunk l = IsMaskTo l.lo l.hi l.column (8 * l.chunk) l.mask
