use Rattle.ub_script.proofs.AnswerFacts.{answers_are_their_lines}
use Rattle.ub_script.proofs.law.answers_are_their_lines.Goals as goal

pub returns : goal.returns
returns c = answers_are_their_lines
