use Rattle.ub_query.proofs.Examples.{one_not_greater}
use Rattle.ub_query.proofs.example.one_not_greater.Goals as goal

pub returns : goal.returns
returns c = one_not_greater
