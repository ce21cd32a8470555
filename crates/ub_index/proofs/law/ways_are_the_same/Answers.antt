use Rattle.ub_index.proofs.LeadFacts.{ways_are_the_same}
use Rattle.ub_index.proofs.law.ways_are_the_same.Goals as goal

pub returns : goal.returns
returns c = ways_are_the_same
