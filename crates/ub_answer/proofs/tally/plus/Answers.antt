use Rattle.std.proofs.Common.{rules}
use Rattle.ub_answer.proofs.tally.plus.Goals as goal

pub returns-in-Number : goal.returns-in-Number
returns-in-Number c = search rules
