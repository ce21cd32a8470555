use Rattle.ub_region.proofs.Laws.{insertion_keeps_regions}
use Rattle.ub_region.proofs.law.insertion_keeps_regions.Goals as goal

pub returns : goal.returns
returns c = insertion_keeps_regions
