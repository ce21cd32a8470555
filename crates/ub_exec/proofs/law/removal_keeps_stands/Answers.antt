use Rattle.ub_exec.proofs.Laws.{removal_keeps_stands}
use Rattle.ub_exec.proofs.law.removal_keeps_stands.Goals as goal

pub returns : goal.returns
returns c = removal_keeps_stands
