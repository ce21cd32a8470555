use Rattle.ub_shell.proofs.Laws.{failed_runs_lose_nothing}
use Rattle.ub_shell.proofs.law.failed_runs_lose_nothing.Goals as goal

pub returns : goal.returns
returns c = failed_runs_lose_nothing
