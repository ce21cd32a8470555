use Rattle.std.proofs.Common.{rules}
use Rattle.ub_zaddr.proofs.shape.Shape.new.Goals as goal

pub invariant_of-result : goal.invariant_of-result
invariant_of-result c = search rules

pub returns-clause-allowed : goal.returns-clause-allowed
returns-clause-allowed c = search rules
