use Rattle.ub_shell.proofs.ShortFacts.{short_promise}
use Rattle.ub_shell.proofs.command.command_apart.Goals as goal

pub returns-clause-ends : goal.returns-clause-ends
returns-clause-ends g c = (c.run_words.result, c.code.ensures, c.run_words.ensures)

pub returns-clause-short : goal.returns-clause-short
returns-clause-short g c = short_promise _ _ _ _ _ _ _ c.run_words.result _ c.code.ensures c.run_words.ensures.ended
