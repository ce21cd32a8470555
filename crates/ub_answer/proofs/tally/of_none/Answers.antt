use Rattle.std.proofs.Common.{rules}
use Rattle.ub_answer.proofs.tally.of_none.Goals as goal

pub returns-in-Column : goal.returns-in-Column
returns-in-Column c = search rules
