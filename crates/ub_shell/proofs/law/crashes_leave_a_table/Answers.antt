use Rattle.ub_shell.proofs.Laws.{crashes_leave_a_table}
use Rattle.ub_shell.proofs.law.crashes_leave_a_table.Goals as goal

pub returns : goal.returns
returns c = crashes_leave_a_table
