use Rattle.ub_region.proofs.Laws.{removal_keeps_regions}
use Rattle.ub_region.proofs.law.removal_keeps_regions.Goals as goal

pub returns : goal.returns
returns c = removal_keeps_regions
