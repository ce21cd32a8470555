use Rattle.ub_script.proofs.Laws.{stopped_texts_are_whole}
use Rattle.ub_script.proofs.law.stopped_texts_are_whole.Goals as goal

pub returns : goal.returns
returns c = stopped_texts_are_whole
