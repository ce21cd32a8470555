use Rattle.ub_shell.proofs.Laws.{upgraded_tables_are_the_same}
use Rattle.ub_shell.proofs.law.upgraded_tables_are_the_same.Goals as goal

pub returns : goal.returns
returns c = upgraded_tables_are_the_same
