use Rattle.ub_boxes.proofs.Laws.{boxes_are_in_order}
use Rattle.ub_boxes.proofs.law.boxes_are_in_order.Goals as goal

pub returns : goal.returns
returns c = boxes_are_in_order
