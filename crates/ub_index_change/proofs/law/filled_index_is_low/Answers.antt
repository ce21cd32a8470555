use Rattle.ub_index_change.proofs.FillFacts.{filled_low_levels}
use Rattle.ub_index_change.proofs.law.filled_index_is_low.Goals as goal

pub returns : goal.returns
returns c = filled_low_levels
