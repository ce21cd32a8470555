use Rattle.std.proofs.Common.{◌↔◌, drop}
use Rattle.ub_journal.specs.Image.{AreAscending, numbers_of}
use Rattle.ub_journal.proofs.journal.are_ascending.Given as goal

-- all are where those that are left are
abbrev pub invariant-loop-i : goal.invariant-loop-i
invariant-loop-i l = AreAscending 0 l.count (numbers_of l.changes) ↔ AreAscending l.above l.count (numbers_of (drop l.i l.changes))
