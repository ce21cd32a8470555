use Rattle.ub_boxes.proofs.Laws.{points_are_counted}
use Rattle.ub_boxes.proofs.law.points_are_counted.Goals as goal

pub returns : goal.returns
returns c = points_are_counted
