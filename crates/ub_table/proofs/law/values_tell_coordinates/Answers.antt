use Rattle.ub_table.proofs.ValueFacts.{values_tell_coordinates}
use Rattle.ub_table.proofs.law.values_tell_coordinates.Goals as goal

pub returns : goal.returns
returns c = values_tell_coordinates
