use Rattle.std.proofs.Common.{map, nat_le, arith}
use Rattle.std.proofs.lemmas.Nat.{and_le_l}
use Rattle.std.specs.Simd.Lanes.{mask_l}
use Rattle.ub_region.proofs.LaneFacts.{IsMaskOf-and, mask_below}
use Rattle.ub_region.proofs.masks.within.Goals as goal

pub overflow_cast-result : goal.overflow_cast-result
overflow_cast-result c =
    let low = mask_l (map (λ x. nat_le c.args.lo x) c.args.column) in
    let high = mask_l (map (λ x. nat_le x c.args.hi) c.args.column) in
    rw (c.at_least.ensures, c.at_most.ensures) (omega (arith, and_le_l low high, mask_below (λ x. nat_le c.args.lo x) c.args.column c.fits-column.0))

pub returns : goal.returns
returns c = rw (c.at_least.ensures, c.at_most.ensures) (IsMaskOf-and c.args.lo c.args.hi c.args.column)
