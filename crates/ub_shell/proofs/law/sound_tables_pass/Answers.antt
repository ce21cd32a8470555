use Rattle.ub_shell.proofs.Laws.{sound_tables_pass}
use Rattle.ub_shell.proofs.law.sound_tables_pass.Goals as goal

pub returns : goal.returns
returns c = sound_tables_pass
