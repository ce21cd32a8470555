use Rattle.ub_region.proofs.Laws.{removal_takes_the_row}
use Rattle.ub_region.proofs.law.removal_takes_the_row.Goals as goal

pub returns : goal.returns
returns c = removal_takes_the_row
