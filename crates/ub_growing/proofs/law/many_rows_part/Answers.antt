use Rattle.ub_growing.proofs.Laws.{many_rows_part}
use Rattle.ub_growing.proofs.law.many_rows_part.Goals as goal

pub returns : goal.returns
returns c = many_rows_part
