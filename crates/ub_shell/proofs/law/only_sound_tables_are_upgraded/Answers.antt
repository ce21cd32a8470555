use Rattle.ub_shell.proofs.Laws.{only_sound_tables_are_upgraded}
use Rattle.ub_shell.proofs.law.only_sound_tables_are_upgraded.Goals as goal

pub returns : goal.returns
returns c = only_sound_tables_are_upgraded
