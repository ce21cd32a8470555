use Rattle.ub_index_change.proofs.Changes.{replaced}
use Rattle.ub_index_change.proofs.law.change_replaces.Goals as goal

pub returns : goal.returns
returns c = replaced
