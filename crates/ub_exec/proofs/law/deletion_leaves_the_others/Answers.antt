use Rattle.ub_exec.proofs.Laws.{deletion_leaves_the_others}
use Rattle.ub_exec.proofs.law.deletion_leaves_the_others.Goals as goal

pub returns : goal.returns
returns c = deletion_leaves_the_others
