use Rattle.ub_query.proofs.Laws.{rows_fall_into_groups}
use Rattle.ub_query.proofs.law.rows_fall_into_groups.Goals as goal

pub returns : goal.returns
returns c = rows_fall_into_groups
