use Rattle.ub_growing.proofs.Laws.{regions_are_in_line}
use Rattle.ub_growing.proofs.law.regions_are_in_line.Goals as goal

pub returns : goal.returns
returns c = regions_are_in_line
