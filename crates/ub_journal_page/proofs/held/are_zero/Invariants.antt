use Rattle.ub_journal_page.proofs.ZeroFacts.{AreZero}
use Rattle.ub_journal_page.proofs.held.are_zero.Given as goal

abbrev pub invariant-loop-i : goal.invariant-loop-i
invariant-loop-i l = AreZero l.bytes l.joined l.i
