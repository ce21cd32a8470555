use Rattle.ub_planning.proofs.Laws.{meeting_are_one}
use Rattle.ub_planning.proofs.law.meeting_are_one.Goals as goal

pub returns : goal.returns
returns c = meeting_are_one
