use Rattle.ub_planning.proofs.Laws.{events_are_one}
use Rattle.ub_planning.proofs.law.events_are_one.Goals as goal

pub returns : goal.returns
returns c = events_are_one
