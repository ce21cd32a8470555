use Rattle.ub_bytes.proofs.ZeroFacts.{AreZero}
use Rattle.ub_bytes.proofs.page.are_zero.Given as goal

abbrev pub invariant-loop-i : goal.invariant-loop-i
invariant-loop-i l = AreZero l.bytes l.joined l.i
