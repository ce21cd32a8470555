use Rattle.std.proofs.Common.{rules}
use Rattle.ub_table.proofs.name.has_name_len.Goals as goal

pub returns-then-not-is_empty : goal.returns-then-not-is_empty
returns-then-not-is_empty c = search rules
