use Rattle.ub_query.proofs.Laws.{between_is_two}
use Rattle.ub_query.proofs.law.between_is_two.Goals as goal

pub returns : goal.returns
returns c = between_is_two
