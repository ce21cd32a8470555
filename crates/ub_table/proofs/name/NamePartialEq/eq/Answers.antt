use Rattle.std.proofs.Common.{rules}
use Rattle.ub_table.proofs.name.NamePartialEq.eq.Goals as goal

pub returns-clause-value : goal.returns-clause-value
returns-clause-value c = search rules

pub returns-clause-same : goal.returns-clause-same
returns-clause-same c = search rules
