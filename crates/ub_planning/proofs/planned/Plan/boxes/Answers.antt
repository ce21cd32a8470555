use Rattle.std.proofs.Common.{rules}
use Rattle.ub_planning.proofs.planned.Plan.boxes.Goals as goal

pub returns-in-Empty-clause-boxes : goal.returns-in-Empty-clause-boxes
returns-in-Empty-clause-boxes c = search rules
