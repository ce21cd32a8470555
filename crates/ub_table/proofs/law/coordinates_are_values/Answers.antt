use Rattle.ub_table.proofs.ValueFacts.{coordinates_are_values}
use Rattle.ub_table.proofs.law.coordinates_are_values.Goals as goal

pub returns : goal.returns
returns c = coordinates_are_values
