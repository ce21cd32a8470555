use Rattle.ub_boxes.proofs.Laws.{selected_are_in_boxes}
use Rattle.ub_boxes.proofs.law.selected_are_in_boxes.Goals as goal

pub returns : goal.returns
returns c = selected_are_in_boxes
