use Rattle.ub_shell.proofs.AppendLaws.{refused_data_leaves_the_table}
use Rattle.ub_shell.proofs.law.refused_data_leaves_the_table.Goals as goal

pub returns : goal.returns
returns c = refused_data_leaves_the_table
