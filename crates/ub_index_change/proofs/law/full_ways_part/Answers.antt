use Rattle.ub_index_change.proofs.FullFacts.{full_taken}
use Rattle.ub_index_change.proofs.law.full_ways_part.Goals as goal

pub returns : goal.returns
returns c = λ last old key added level entry end from to left right turns. (full_taken last old key added level entry end from to left right turns).0
