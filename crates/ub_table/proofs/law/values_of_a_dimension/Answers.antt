use Rattle.ub_table.proofs.ValueFacts.{values_of_a_dimension}
use Rattle.ub_table.proofs.law.values_of_a_dimension.Goals as goal

pub returns : goal.returns
returns c = values_of_a_dimension
