use Rattle.ub_shell.proofs.Laws.{asking_leaves_the_table}
use Rattle.ub_shell.proofs.law.asking_leaves_the_table.Goals as goal

pub returns : goal.returns
returns c = asking_leaves_the_table
