use Rattle.std.proofs.Common.{rules}
use Rattle.ub_table.proofs.keyword.is_word.Goals as goal

pub returns : goal.returns
returns c = search rules
