use Rattle.std.proofs.Common.{◌≡◌, ◌-◌, drop, replicate}
use Rattle.ub_journal_page.proofs.held.held_to.Given as goal

-- zeros stand behind the bytes that are left
abbrev pub invariant-loop-i : goal.invariant-loop-i
invariant-loop-i l = drop (l.end - l.i) l.page ≡ replicate (4096 - (l.end - l.i)) 0
