use Rattle.ub_shell.proofs.Laws.{checked_tables_are_run_as_sound}
use Rattle.ub_shell.proofs.law.checked_tables_are_run_as_sound.Goals as goal

pub returns : goal.returns
returns c = checked_tables_are_run_as_sound
