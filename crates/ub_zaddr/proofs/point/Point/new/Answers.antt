use Rattle.std.proofs.Common.{arith, rules}
use Rattle.std.proofs.lemmas.Grind.{common_steps}
use Rattle.ub_zaddr.proofs.point.Point.new.Goals as goal

pub unreachable-requires : goal.unreachable-requires
unreachable-requires c = search rules

pub of_places-requires : goal.of_places-requires
of_places-requires c = search rules

pub returns-clause-allowed : goal.returns-clause-allowed
returns-clause-allowed c = search rules

pub returns-clause-point : goal.returns-clause-point
returns-clause-point c = grind (arith, common_steps)
