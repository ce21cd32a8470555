use Rattle.ub_region.specs.Lanes.{IsMaskBelow}
use Rattle.ub_region.proofs.masks.mask_between.Given as goal

abbrev pub invariant-loop-dim : goal.invariant-loop-dim
invariant-loop-dim l = IsMaskBelow l.len l.dims l.lo l.hi l.dim l.mask
