use Rattle.std.proofs.Common.{rules}
use Rattle.ub_table.specs.Value.{shift}
use Rattle.ub_table.proofs.value.coordinate_at.Goals as goal

pub returns : goal.returns
unfolding shift
returns c = search rules
