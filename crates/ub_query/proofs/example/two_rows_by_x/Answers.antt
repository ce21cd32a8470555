use Rattle.ub_query.proofs.Examples.{two_rows_by_x}
use Rattle.ub_query.proofs.example.two_rows_by_x.Goals as goal

pub returns : goal.returns
returns c = two_rows_by_x
