use Rattle.std.proofs.Common.{rules}
use Rattle.ub_table.proofs.row.Key.is_before.Goals as goal

pub returns-then-self-other-2 : goal.returns-then-self-other-2
returns-then-self-other-2 c = search rules
