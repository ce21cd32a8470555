use Rattle.ub_boxes.proofs.WhereFacts.{turns_are_where_it_turns}
use Rattle.ub_boxes.proofs.law.turns_are_where_it_turns.Goals as goal

pub returns : goal.returns
returns c = turns_are_where_it_turns
