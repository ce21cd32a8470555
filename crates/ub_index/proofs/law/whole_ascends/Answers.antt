use Rattle.ub_index.proofs.OrderFacts.{under_ascends}
use Rattle.ub_index.proofs.law.whole_ascends.Goals as goal

pub returns : goal.returns
returns c = under_ascends
