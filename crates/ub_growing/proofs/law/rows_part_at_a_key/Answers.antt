use Rattle.ub_growing.proofs.Laws.{rows_part_at_a_key}
use Rattle.ub_growing.proofs.law.rows_part_at_a_key.Goals as goal

pub returns : goal.returns
returns c = rows_part_at_a_key
