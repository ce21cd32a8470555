use Rattle.ub_boxes.proofs.Laws.{boxes_are_joined}
use Rattle.ub_boxes.proofs.law.boxes_are_joined.Goals as goal

pub returns : goal.returns
returns c = boxes_are_joined
