use Rattle.ub_boxes.proofs.Laws.{between_can_be_as_two}
use Rattle.ub_boxes.proofs.law.between_can_be_as_two.Goals as goal

pub returns : goal.returns
returns c = between_can_be_as_two
