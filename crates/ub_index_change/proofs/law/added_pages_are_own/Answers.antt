use Rattle.ub_index_change.proofs.OwnFacts.{own_added}
use Rattle.ub_index_change.proofs.law.added_pages_are_own.Goals as goal

pub returns : goal.returns
returns c = λ index old filled new change f first is own there made. own_added index old is own there change f first filled new made
