use Rattle.ub_query.proofs.Examples.{rows_by_y}
use Rattle.ub_query.proofs.example.rows_by_y.Goals as goal

pub returns : goal.returns
returns c = rows_by_y
