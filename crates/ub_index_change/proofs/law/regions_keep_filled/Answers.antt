use Rattle.ub_index_change.proofs.FillFacts.{stands_filled}
use Rattle.ub_index_change.proofs.law.regions_keep_filled.Goals as goal

pub returns : goal.returns
returns c = stands_filled
