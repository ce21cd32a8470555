use Rattle.ub_shell.proofs.Laws.{checking_leaves_the_table}
use Rattle.ub_shell.proofs.law.checking_leaves_the_table.Goals as goal

pub returns : goal.returns
returns c = checking_leaves_the_table
