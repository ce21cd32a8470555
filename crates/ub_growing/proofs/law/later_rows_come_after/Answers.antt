use Rattle.ub_growing.proofs.Laws.{later_rows_come_after}
use Rattle.ub_growing.proofs.law.later_rows_come_after.Goals as goal

pub returns : goal.returns
returns c = later_rows_come_after
