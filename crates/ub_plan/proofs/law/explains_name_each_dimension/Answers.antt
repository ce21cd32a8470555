use Rattle.ub_plan.proofs.Laws.{explains_name_each_dimension}
use Rattle.ub_plan.proofs.law.explains_name_each_dimension.Goals as goal

pub returns : goal.returns
returns c = explains_name_each_dimension
