use Rattle.ub_shell.proofs.ShortLaws.{loaded_tables_stand}
use Rattle.ub_shell.proofs.law.loaded_tables_stand.Goals as goal

pub returns : goal.returns
returns c = loaded_tables_stand
