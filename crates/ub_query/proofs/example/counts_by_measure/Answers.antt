use Rattle.ub_query.proofs.Examples.{counts_by_measure}
use Rattle.ub_query.proofs.example.counts_by_measure.Goals as goal

pub returns : goal.returns
returns c = counts_by_measure
