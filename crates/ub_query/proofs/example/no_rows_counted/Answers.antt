use Rattle.ub_query.proofs.Examples.{no_rows_counted}
use Rattle.ub_query.proofs.example.no_rows_counted.Goals as goal

pub returns : goal.returns
returns c = no_rows_counted
