use Rattle.std.proofs.Common.{arith}
use Rattle.ub_zaddr.proofs.TurnFacts.{halves_joined}
use Rattle.ub_zaddr.proofs.gathering.every_third.Goals as goal

pub returns : goal.returns
returns c =
    halves_joined 3 c.args.z c.gathered_by_three.result c.gathered_by_three-2.result (omega arith)
    (rw c.low_part.ensures at c.gathered_by_three.ensures.value) (rw c.low_part-2.ensures at c.gathered_by_three-2.ensures.value)
