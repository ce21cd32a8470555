use Rattle.ub_boxes.proofs.Laws.{exact_boxes_select}
use Rattle.ub_boxes.proofs.law.exact_boxes_select.Goals as goal

pub returns : goal.returns
returns c = exact_boxes_select
