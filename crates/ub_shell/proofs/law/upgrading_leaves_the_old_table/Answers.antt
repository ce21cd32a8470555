use Rattle.ub_shell.proofs.Laws.{upgrading_leaves_the_old_table}
use Rattle.ub_shell.proofs.law.upgrading_leaves_the_old_table.Goals as goal

pub returns : goal.returns
returns c = upgrading_leaves_the_old_table
