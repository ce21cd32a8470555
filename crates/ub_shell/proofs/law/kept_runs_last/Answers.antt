use Rattle.ub_shell.proofs.Laws.{kept_runs_last}
use Rattle.ub_shell.proofs.law.kept_runs_last.Goals as goal

pub returns : goal.returns
returns c = kept_runs_last
