use Rattle.ub_words.proofs.AskFacts.{nothing_by_none}
use Rattle.ub_words.proofs.words.asked_by_matches.Goals as goal

pub returns-in-None : goal.returns-in-None
returns-in-None c = λ words taken. c.no_command.ensures words (nothing_by_none words _ c.in-None.ensures taken)
