use Rattle.ub_query.proofs.Examples.{nothing_counted}
use Rattle.ub_query.proofs.example.nothing_counted.Goals as goal

pub returns : goal.returns
returns c = nothing_counted
