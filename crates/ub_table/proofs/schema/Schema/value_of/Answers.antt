use Rattle.std.proofs.Common.{rules}
use Rattle.ub_table.proofs.schema.Schema.value_of.Goals as goal

pub returns-else-column-dims-clause-value : goal.returns-else-column-dims-clause-value
returns-else-column-dims-clause-value c = search rules
