use Rattle.ub_planning.proofs.Laws.{plans_have_visits}
use Rattle.ub_planning.proofs.law.plans_have_visits.Goals as goal

pub returns : goal.returns
returns c = plans_have_visits
