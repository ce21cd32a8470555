use Rattle.std.proofs.Common.{◌≡◌, ◌*◌, ◌+◌, ◌-◌, ◌∙◌, get_or, rules, arith, refl}
use Rattle.ub_zaddr.specs.Address.{IsAtMost}
use Rattle.ub_boxes.proofs.SizeFacts.{size_next, size_whole}
use Rattle.ub_boxes.proofs.size.size.Goals as goal

pub returns-in_err-size : goal.returns-in_err-size
returns-in_err-size c =
    let lo = c.values-lo.ensures.values ∙ c.lo.ensures.lo in
    let hi = c.values-hi.ensures.values ∙ c.hi.ensures.hi in
    let ordered : IsAtMost c.values-lo.result.now c.values-hi.result.now = rw (lo, hi) c.hi.ensures.corners.ordered in
    let side : c.from.result ≡ get_or c.values-hi.result.now c.loop-dim.dim 0 - get_or c.values-lo.result.now c.loop-dim.dim 0 = search rules in
    let next = size_next _ _ c.loop-dim.dim c.loop-dim.size (c.loop-dim.size * (c.from.result + 1)) ordered c.loop-dim-test.true c.loop-dim.invariant.part (rw side refl) in
    let over = c.in_err-size.ensures in
    let le = rw (lo, hi) at next.1 in
    rw c.from_residual.ensures (λ small. over (omega arith))

pub loop-dim-preserved : goal.loop-dim-preserved
loop-dim-preserved c =
    let lo = c.values-lo.ensures.values ∙ c.lo.ensures.lo in
    let hi = c.values-hi.ensures.values ∙ c.hi.ensures.hi in
    let ordered : IsAtMost c.values-lo.result.now c.values-hi.result.now = rw (lo, hi) c.hi.ensures.corners.ordered in
    let side : c.from.result ≡ get_or c.values-hi.result.now c.loop-dim.dim 0 - get_or c.values-lo.result.now c.loop-dim.dim 0 = search rules in
    let is : c.in_ok-size.size ≡ c.loop-dim.size * (c.from.result + 1) = c.in_ok-size.ensures.1 in
    let small = c.in_ok-size.ensures.0 in
    let next = size_next _ _ c.loop-dim.dim c.loop-dim.size c.in_ok-size.size ordered c.loop-dim-test.true c.loop-dim.invariant.part (rw (is, side) refl) in
    record { part = next.0; fits = omega arith }

pub returns : goal.returns
returns c =
    let lo = c.values-lo.ensures.values ∙ c.lo.ensures.lo in
    let hi = c.values-hi.ensures.values ∙ c.hi.ensures.hi in
    let whole = rw (lo, hi) at (size_whole _ _ c.loop-dim.dim c.loop-dim.size c.loop-dim-test.false c.loop-dim.invariant.part) in
    let fits = c.loop-dim.invariant.fits in
    (omega arith, whole)
