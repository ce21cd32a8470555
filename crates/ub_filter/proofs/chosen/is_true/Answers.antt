use Rattle.std.proofs.Common.{rules}
use Rattle.ub_filter.proofs.chosen.is_true.Goals as goal

pub returns-in-None : goal.returns-in-None
returns-in-None c = search rules
