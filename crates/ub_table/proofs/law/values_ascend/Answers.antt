use Rattle.ub_table.proofs.ValueFacts.{values_ascend}
use Rattle.ub_table.proofs.law.values_ascend.Goals as goal

pub returns : goal.returns
returns c = values_ascend
