use Rattle.ub_shell.proofs.AppendLaws.{appended_tables_have_the_rows}
use Rattle.ub_shell.proofs.law.appended_tables_have_the_rows.Goals as goal

pub returns : goal.returns
returns c = appended_tables_have_the_rows
