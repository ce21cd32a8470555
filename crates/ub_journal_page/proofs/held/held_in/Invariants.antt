use Rattle.std.proofs.Common.{◌≡◌, ◌-◌, ◌*◌, drop, replicate}
use Rattle.ub_journal_page.proofs.held.held_in.Given as goal

-- the blocks so far are zeros
abbrev pub invariant-loop-i : goal.invariant-loop-i
invariant-loop-i l = drop (4096 - 64 * l.i) l.page ≡ replicate (4096 - (4096 - 64 * l.i)) 0
