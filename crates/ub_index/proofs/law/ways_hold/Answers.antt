use Rattle.ub_index.proofs.LeadFacts.{ways_hold}
use Rattle.ub_index.proofs.law.ways_hold.Goals as goal

pub returns : goal.returns
returns c = ways_hold
