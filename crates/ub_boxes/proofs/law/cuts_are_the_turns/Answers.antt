use Rattle.ub_boxes.proofs.TurnFacts.{cuts_are_the_turns}
use Rattle.ub_boxes.proofs.law.cuts_are_the_turns.Goals as goal

pub returns : goal.returns
returns c = cuts_are_the_turns
