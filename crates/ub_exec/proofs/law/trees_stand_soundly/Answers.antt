use Rattle.ub_exec.proofs.Laws.{trees_stand_soundly}
use Rattle.ub_exec.proofs.law.trees_stand_soundly.Goals as goal

pub returns : goal.returns
returns c = trees_stand_soundly
