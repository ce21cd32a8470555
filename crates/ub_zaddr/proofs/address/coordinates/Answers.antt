use Rattle.std.proofs.Common.{◌≡◌, ◌/◌, ◌^◌, ℕ, arith, ◌∙◌, ap}
use Rattle.ub_zaddr.specs.Moved.{gathered}
use Rattle.ub_zaddr.proofs.SpreadFacts.{two_bits, three_bits, four_bits}
use Rattle.ub_zaddr.proofs.address.coordinates.Goals as goal

whole : (d z : ℕ) → gathered d 32 z ≡ gathered d 32 (z / 2 ^ 0)
whole d z = let one : z ≡ z / 2 ^ 0 = omega arith in ap (gathered d 32) one

pub returns-in-2-clause-bits : goal.returns-in-2-clause-bits
returns-in-2-clause-bits c =
    two_bits c.args.dims c.args.z _ _ c.in-2.is c.gathered_by_two.ensures (c.gathered_by_two-in-2.ensures ∙ whole 2 c.args.z)

pub returns-in-3-clause-bits : goal.returns-in-3-clause-bits
returns-in-3-clause-bits c =
    three_bits c.args.dims c.args.z _ _ _ c.in-3.is c.every_third.ensures c.every_third-in-3.ensures (c.every_third-in-3-2.ensures ∙ whole 3 c.args.z)

pub returns-in_default-clause-bits : goal.returns-in_default-clause-bits
returns-in_default-clause-bits c =
    let four : c.args.dims ≡ 4 = omega arith in
    four_bits c.args.dims c.args.z _ _ _ _ four c.every_fourth.ensures c.every_fourth-in_default.ensures c.every_fourth-in_default-2.ensures (c.every_fourth-in_default-3.ensures ∙ whole 4 c.args.z)
