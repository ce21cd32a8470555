use Rattle.std.proofs.Common.{ℕ, take}
use Rattle.ub_exec.specs.Deleting.{TakesOut}
use Rattle.ub_exec.proofs.deleting.take_out.Given as goal

-- the rows of the keys so far were taken out
abbrev pub invariant-loop-key : goal.invariant-loop-key
invariant-loop-key g l = (count : ℕ) × TakesOut (take l.key-index l.keys) l.initial.tree l.tree count
