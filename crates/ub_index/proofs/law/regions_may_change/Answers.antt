use Rattle.ub_index.proofs.StandFacts.{stands_as}
use Rattle.ub_index.proofs.law.regions_may_change.Goals as goal

pub returns : goal.returns
returns c = stands_as
