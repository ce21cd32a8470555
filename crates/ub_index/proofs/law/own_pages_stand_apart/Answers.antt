use Rattle.ub_index.proofs.StandFacts.{own_apart}
use Rattle.ub_index.proofs.law.own_pages_stand_apart.Goals as goal

pub returns : goal.returns
returns c = own_apart
