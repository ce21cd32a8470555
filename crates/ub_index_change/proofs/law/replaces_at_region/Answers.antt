use Rattle.ub_index_change.proofs.OwnFacts.{replaced_at}
use Rattle.ub_index_change.proofs.law.replaces_at_region.Goals as goal

pub returns : goal.returns
returns c = replaced_at
