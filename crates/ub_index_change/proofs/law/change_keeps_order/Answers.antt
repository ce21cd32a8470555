use Rattle.ub_index_change.proofs.Changes.{stays}
use Rattle.ub_index_change.proofs.law.change_keeps_order.Goals as goal

pub returns : goal.returns
returns c = stays
