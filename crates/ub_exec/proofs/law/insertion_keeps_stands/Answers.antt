use Rattle.ub_exec.proofs.Laws.{insertion_keeps_stands}
use Rattle.ub_exec.proofs.law.insertion_keeps_stands.Goals as goal

pub returns : goal.returns
returns c = insertion_keeps_stands
