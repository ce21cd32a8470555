use Rattle.ub_index_change.proofs.OwnFacts.{own_dropped}
use Rattle.ub_index_change.proofs.law.dropped_pages_are_own.Goals as goal

pub returns : goal.returns
returns c = λ index old filled new change f is own there made. own_dropped index old is own there change f filled new made
