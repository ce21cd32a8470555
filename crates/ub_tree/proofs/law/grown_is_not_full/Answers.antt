use Rattle.ub_tree.proofs.Laws.{grown_is_not_full}
use Rattle.ub_tree.proofs.law.grown_is_not_full.Goals as goal

pub returns : goal.returns
returns c = grown_is_not_full
