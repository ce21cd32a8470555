use Rattle.ub_query.proofs.Examples.{negatives_by_x}
use Rattle.ub_query.proofs.example.negatives_by_x.Goals as goal

pub returns : goal.returns
returns c = negatives_by_x
