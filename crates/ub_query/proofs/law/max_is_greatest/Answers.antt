use Rattle.ub_query.proofs.Laws.{max_is_greatest}
use Rattle.ub_query.proofs.law.max_is_greatest.Goals as goal

pub returns : goal.returns
returns c = max_is_greatest
