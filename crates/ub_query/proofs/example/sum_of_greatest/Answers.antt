use Rattle.ub_query.proofs.Examples.{sum_of_greatest}
use Rattle.ub_query.proofs.example.sum_of_greatest.Goals as goal

pub returns : goal.returns
returns c = sum_of_greatest
