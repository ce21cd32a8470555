use Rattle.ub_exec.proofs.Laws.{sound_trees_stand}
use Rattle.ub_exec.proofs.law.sound_trees_stand.Goals as goal

pub returns : goal.returns
returns c = sound_trees_stand
