use Rattle.ub_shell.proofs.Laws.{what_was_done_stands}
use Rattle.ub_shell.proofs.law.what_was_done_stands.Goals as goal

pub returns : goal.returns
returns c = what_was_done_stands
