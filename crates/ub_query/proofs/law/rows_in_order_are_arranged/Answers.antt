use Rattle.ub_query.proofs.Laws.{rows_in_order_are_arranged}
use Rattle.ub_query.proofs.law.rows_in_order_are_arranged.Goals as goal

pub returns : goal.returns
returns c = rows_in_order_are_arranged
