use Rattle.std.proofs.Common.{◌↔◌, ◌-◌, drop}
use Rattle.ub_page.specs.Entries.{AreAscending}
use Rattle.ub_page.proofs.directory.are_ascending.Given as goal

abbrev pub invariant-loop-i : goal.invariant-loop-i
invariant-loop-i l = AreAscending l.entries ↔ AreAscending (drop (l.i - 1) l.entries)
