use Rattle.std.proofs.Common.{rules}
use Rattle.ub_table.proofs.columns.Columns.new.Goals as goal

pub returns : goal.returns
returns c = search rules
