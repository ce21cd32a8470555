use Rattle.ub_query.proofs.Laws.{min_is_least}
use Rattle.ub_query.proofs.law.min_is_least.Goals as goal

pub returns : goal.returns
returns c = min_is_least
