use Rattle.std.proofs.Common.{rules}
use Rattle.ub_filter.proofs.choice.Choice.recheck.Goals as goal

pub returns-in-Condition : goal.returns-in-Condition
returns-in-Condition c = search rules
