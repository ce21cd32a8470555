use Rattle.ub_shell.proofs.AppendLaws.{no_rows_no_change}
use Rattle.ub_shell.proofs.law.no_rows_no_change.Goals as goal

pub returns : goal.returns
returns c = no_rows_no_change
