use Rattle.ub_shell.proofs.Laws.{checked_tables_are_sound}
use Rattle.ub_shell.proofs.law.checked_tables_are_sound.Goals as goal

pub returns : goal.returns
returns c = checked_tables_are_sound
