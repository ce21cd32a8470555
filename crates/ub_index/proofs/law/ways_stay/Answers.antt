use Rattle.ub_index.proofs.LeadFacts.{ways_stay}
use Rattle.ub_index.proofs.law.ways_stay.Goals as goal

pub returns : goal.returns
returns c = ways_stay
