use Rattle.std.proofs.Common.{slice_index}
use Rattle.ub_zaddr.proofs.BelowFacts.{AreCompared}
use Rattle.ub_zaddr.proofs.below.is_below_first.Given as goal

abbrev pub invariant-loop-i : goal.invariant-loop-i
invariant-loop-i g l = AreCompared l.i (λ j. slice_index l.point j) (λ j. slice_index l.other j) l.same l.highest l.below
