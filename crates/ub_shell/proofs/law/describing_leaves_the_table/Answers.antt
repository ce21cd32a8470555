use Rattle.ub_shell.proofs.Laws.{describing_leaves_the_table}
use Rattle.ub_shell.proofs.law.describing_leaves_the_table.Goals as goal

pub returns : goal.returns
returns c = describing_leaves_the_table
