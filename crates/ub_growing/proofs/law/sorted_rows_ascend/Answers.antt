use Rattle.ub_growing.proofs.Laws.{sorted_rows_ascend}
use Rattle.ub_growing.proofs.law.sorted_rows_ascend.Goals as goal

pub returns : goal.returns
returns c = sorted_rows_ascend
