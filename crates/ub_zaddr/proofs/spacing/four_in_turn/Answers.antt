use Rattle.ub_zaddr.proofs.TurnFacts.{four_joined}
use Rattle.ub_zaddr.proofs.spacing.four_in_turn.Goals as goal

pub returns : goal.returns
returns c =
    let a = c.args in let u = c.four_halves-upper in let l = c.four_halves-lower in
    rw (c.from.ensures, c.from-2.ensures)
    (four_joined a.x a.y a.z a.w u.result l.result u.type_inv l.type_inv
    (rw (c.high.ensures, c.high-2.ensures, c.high-3.ensures, c.high-4.ensures) at u.ensures)
    (rw (c.low.ensures, c.low-2.ensures, c.low-3.ensures, c.low-4.ensures) at l.ensures))
