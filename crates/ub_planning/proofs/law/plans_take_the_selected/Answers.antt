use Rattle.ub_planning.proofs.Laws.{plans_take_the_selected}
use Rattle.ub_planning.proofs.law.plans_take_the_selected.Goals as goal

pub returns : goal.returns
returns c = plans_take_the_selected
