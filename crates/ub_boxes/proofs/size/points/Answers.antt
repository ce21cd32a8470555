use Rattle.std.proofs.Common.{rules}
use Rattle.ub_boxes.proofs.size.points.Goals as goal

pub returns-clause-some : goal.returns-clause-some
returns-clause-some c = search rules

pub returns-clause-none : goal.returns-clause-none
returns-clause-none c = search rules
