use Rattle.ub_boxes.proofs.Laws.{boxes_are_apart}
use Rattle.ub_boxes.proofs.law.boxes_are_apart.Goals as goal

pub returns : goal.returns
returns c = boxes_are_apart
