use Rattle.std.proofs.Common.{◌-◌}
use Rattle.ub_check.proofs.Common.{IsWalkedTo}
use Rattle.ub_check.proofs.checking.+check_under.Given as goal

abbrev pub decreases-check_under : goal.decreases-check_under
decreases-check_under g l = l.level

abbrev pub invariant-loop-i : goal.invariant-loop-i
invariant-loop-i g l = IsWalkedTo l.schema l.last (l.level - 1) l.entries.items l.end l.initial.pager l.pager l.initial.walk l.walk l.i
