use Rattle.std.proofs.Common.{rules}
use Rattle.ub_table.proofs.items.Items.copy.Goals as goal

pub returns : goal.returns
returns g c = search rules
