use Rattle.ub_exec.proofs.Laws.{stands_are_one}
use Rattle.ub_exec.proofs.law.stands_are_one.Goals as goal

pub returns : goal.returns
returns c = stands_are_one
