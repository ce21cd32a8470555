use Rattle.std.proofs.Common.{rules}
use Rattle.ub_bigmin.proofs.words.floor_of.Goals as goal

pub returns-clause-own : goal.returns-clause-own
returns-clause-own c = search rules

pub returns-clause-other : goal.returns-clause-other
returns-clause-other c = search rules
