use Rattle.ub_index_change.proofs.OwnFacts.{foreign_regions}
use Rattle.ub_index_change.proofs.law.regions_are_foreign.Goals as goal

pub returns : goal.returns
returns c = λ index old from change is own there later. foreign_regions index old is own there from change later
