use Rattle.ub_planning.proofs.Laws.{limit_of_zero_means_nothing}
use Rattle.ub_planning.proofs.law.limit_of_zero_means_nothing.Goals as goal

pub returns : goal.returns
returns c = limit_of_zero_means_nothing
