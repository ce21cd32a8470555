use Rattle.ub_index.proofs.StandFacts.{are_places}
use Rattle.ub_index.proofs.law.entries_are_places.Goals as goal

pub returns : goal.returns
returns c = are_places
