use Rattle.ub_shell.proofs.Laws.{unchanged_tables_are_left}
use Rattle.ub_shell.proofs.law.unchanged_tables_are_left.Goals as goal

pub returns : goal.returns
returns c = unchanged_tables_are_left
