use Rattle.ub_shell.proofs.ShortLaws.{checked_tables_stand}
use Rattle.ub_shell.proofs.law.checked_tables_stand.Goals as goal

pub returns : goal.returns
returns c = checked_tables_stand
