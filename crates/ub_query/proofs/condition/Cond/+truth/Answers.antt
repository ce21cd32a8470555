use Rattle.std.proofs.Common.{rules}
use Rattle.ub_query.proofs.condition.Cond.+truth.Goals as goal

pub returns-then-truth : goal.returns-then-truth
returns-then-truth t c = search rules

pub returns-else-truth : goal.returns-else-truth
returns-else-truth t c = search rules

pub returns-then-low-value : goal.returns-then-low-value
returns-then-low-value t c = search rules
