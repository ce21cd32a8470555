use Rattle.ub_query.proofs.Examples.{sums_by_x}
use Rattle.ub_query.proofs.example.sums_by_x.Goals as goal

pub returns : goal.returns
returns c = sums_by_x
