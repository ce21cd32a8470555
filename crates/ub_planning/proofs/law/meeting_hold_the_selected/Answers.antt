use Rattle.ub_planning.proofs.Laws.{meeting_hold_the_selected}
use Rattle.ub_planning.proofs.law.meeting_hold_the_selected.Goals as goal

pub returns : goal.returns
returns c = meeting_hold_the_selected
