use Rattle.ub_growing.proofs.Laws.{few_rows_are_one_region}
use Rattle.ub_growing.proofs.law.few_rows_are_one_region.Goals as goal

pub returns : goal.returns
returns c = few_rows_are_one_region
