use Rattle.ub_planning.proofs.Laws.{plans_are_empty}
use Rattle.ub_planning.proofs.law.plans_are_empty.Goals as goal

pub returns : goal.returns
returns c = plans_are_empty
