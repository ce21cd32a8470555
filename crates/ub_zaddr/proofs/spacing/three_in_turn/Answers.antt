use Rattle.ub_zaddr.proofs.TurnFacts.{three_joined}
use Rattle.ub_zaddr.proofs.spacing.three_in_turn.Goals as goal

pub returns : goal.returns
returns c =
    let a = c.args in let u = c.three_halves-upper in let l = c.three_halves-lower in
    rw (c.from.ensures, c.from-2.ensures)
    (three_joined a.x a.y a.z u.result l.result u.ensures.small l.ensures.small
    (rw (c.high.ensures, c.high-2.ensures, c.high-3.ensures) at u.ensures.value)
    (rw (c.low.ensures, c.low-2.ensures, c.low-3.ensures) at l.ensures.value))
