use Rattle.std.proofs.Common.{◌<◌, length}
use Rattle.ub_laying.proofs.falling.grow_leaves.Given as goal

abbrev pub invariant-loop-made : goal.invariant-loop-made
invariant-loop-made l = 0 < length l.leaves.items
