use Rattle.std.proofs.Common.{rules}
use Rattle.ub_query.proofs.condition.Operator.holds.Goals as goal

pub returns-in-AtMost : goal.returns-in-AtMost
returns-in-AtMost c = search rules
