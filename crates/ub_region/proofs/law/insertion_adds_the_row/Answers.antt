use Rattle.ub_region.proofs.Laws.{insertion_adds_the_row}
use Rattle.ub_region.proofs.law.insertion_adds_the_row.Goals as goal

pub returns : goal.returns
returns c = insertion_adds_the_row
