use Rattle.ub_shell.proofs.Laws.{full_tables_are_left}
use Rattle.ub_shell.proofs.law.full_tables_are_left.Goals as goal

pub returns : goal.returns
returns c = full_tables_are_left
