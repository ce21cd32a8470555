use Rattle.std.proofs.Common.{arith}
use Rattle.ub_zaddr.proofs.TurnFacts.{halves_joined}
use Rattle.ub_zaddr.proofs.gathering.every_fourth.Goals as goal

pub returns : goal.returns
returns c =
    halves_joined 4 c.args.z c.gathered_by_four.result c.gathered_by_four-2.result (omega arith)
    (rw c.low_part.ensures at c.gathered_by_four.ensures.value) (rw c.low_part-2.ensures at c.gathered_by_four-2.ensures.value)
