use Rattle.ub_planning.proofs.Laws.{visits_are_one}
use Rattle.ub_planning.proofs.law.visits_are_one.Goals as goal

pub returns : goal.returns
returns c = visits_are_one
