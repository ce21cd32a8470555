use Rattle.ub_shell.proofs.Laws.{only_help_is_written}
use Rattle.ub_shell.proofs.law.only_help_is_written.Goals as goal

pub returns : goal.returns
returns c = only_help_is_written
