use Rattle.ub_query.proofs.Examples.{none_between}
use Rattle.ub_query.proofs.example.none_between.Goals as goal

pub returns : goal.returns
returns c = none_between
