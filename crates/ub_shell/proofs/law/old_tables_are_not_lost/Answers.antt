use Rattle.ub_shell.proofs.Laws.{old_tables_are_not_lost}
use Rattle.ub_shell.proofs.law.old_tables_are_not_lost.Goals as goal

pub returns : goal.returns
returns c = old_tables_are_not_lost
