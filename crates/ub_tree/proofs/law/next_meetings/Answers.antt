use Rattle.ub_tree.proofs.Laws.{next_is_the_first, next_is_later}
use Rattle.ub_tree.proofs.law.next_meetings.Goals as goal

pub returns-clause-next_is_the_first : goal.returns-clause-next_is_the_first
returns-clause-next_is_the_first c = next_is_the_first

pub returns-clause-next_is_later : goal.returns-clause-next_is_later
returns-clause-next_is_later c = next_is_later
