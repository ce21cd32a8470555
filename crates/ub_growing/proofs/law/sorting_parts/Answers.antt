use Rattle.ub_growing.proofs.Laws.{sorting_parts}
use Rattle.ub_growing.proofs.law.sorting_parts.Goals as goal

pub returns : goal.returns
returns c = sorting_parts
