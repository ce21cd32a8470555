use Rattle.ub_shell.proofs.Laws.{wrong_words_are_told}
use Rattle.ub_shell.proofs.law.wrong_words_are_told.Goals as goal

pub returns : goal.returns
returns c = wrong_words_are_told
