use Rattle.std.proofs.Common.{rules}
use Rattle.ub_syntax.proofs.recogniser.refused.Goals as goal

pub returns-in-TooDeep : goal.returns-in-TooDeep
returns-in-TooDeep c = search rules
