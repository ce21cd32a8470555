use Rattle.ub_script.proofs.Laws.{cut_texts_are_a_front}
use Rattle.ub_script.proofs.law.cut_texts_are_a_front.Goals as goal

pub returns : goal.returns
returns c = cut_texts_are_a_front
