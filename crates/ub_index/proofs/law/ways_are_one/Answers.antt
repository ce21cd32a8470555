use Rattle.ub_index.proofs.LeadFacts.{ways_are_one}
use Rattle.ub_index.proofs.law.ways_are_one.Goals as goal

pub returns : goal.returns
returns c = ways_are_one
