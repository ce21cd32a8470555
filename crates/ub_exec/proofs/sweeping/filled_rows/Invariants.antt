use Rattle.ub_exec.proofs.FillFacts.{HasFilled, held}
use Rattle.ub_tetris.specs.Sweep.{rows_left}
use Rattle.ub_exec.proofs.sweeping.filled_rows.Given as goal

abbrev pub invariant-loop-sweep : goal.invariant-loop-sweep
invariant-loop-sweep g l = record { filled : HasFilled l.plan l.fn.tree l.tree l.fn.sweep l.sweep (held l.plan l.fn.tree l.rows.items) }

abbrev pub decreases-loop-sweep : goal.decreases-loop-sweep
decreases-loop-sweep g l = rows_left l.sweep
