use Rattle.std.proofs.Common.{rules}
use Rattle.ub_answer.proofs.rows.is_behind.Goals as goal

pub returns-in-Some : goal.returns-in-Some
returns-in-Some c = search rules
