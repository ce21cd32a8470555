use Rattle.ub_words.proofs.Laws.{one_thing_is_asked}
use Rattle.ub_words.proofs.law.one_thing_is_asked.Goals as goal

pub returns : goal.returns
returns c = one_thing_is_asked
