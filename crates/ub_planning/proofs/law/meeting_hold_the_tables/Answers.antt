use Rattle.ub_planning.proofs.Laws.{meeting_hold_the_tables}
use Rattle.ub_planning.proofs.law.meeting_hold_the_tables.Goals as goal

pub returns : goal.returns
returns c = meeting_hold_the_tables
