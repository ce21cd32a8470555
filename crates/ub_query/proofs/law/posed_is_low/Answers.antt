use Rattle.ub_query.proofs.Laws.{posed_is_low}
use Rattle.ub_query.proofs.law.posed_is_low.Goals as goal

pub returns : goal.returns
returns c = posed_is_low
