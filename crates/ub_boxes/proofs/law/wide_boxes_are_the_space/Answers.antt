use Rattle.ub_boxes.proofs.Laws.{wide_boxes_are_the_space}
use Rattle.ub_boxes.proofs.law.wide_boxes_are_the_space.Goals as goal

pub returns : goal.returns
returns c = wide_boxes_are_the_space
