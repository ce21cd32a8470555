use Rattle.ub_index.proofs.FirstFacts.{ways_miss}
use Rattle.ub_index.proofs.law.ways_miss_first.Goals as goal

pub returns : goal.returns
returns c = ways_miss
