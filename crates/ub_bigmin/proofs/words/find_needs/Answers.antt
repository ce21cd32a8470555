use Rattle.std.proofs.Common.{arith, ap, ◌∙◌, ◌≡◌, ℕ, List, length}
use Rattle.ub_bigmin.proofs.NeedFacts.{needs_next}
use Rattle.ub_bigmin.proofs.words.find_needs.Goals as goal

pub loop-j-preserved : goal.loop-j-preserved
loop-j-preserved c =
    let e_lo : c.values-lo.result.now ≡ c.args.zbox.now.lo = c.values-lo.ensures.values ∙ c.lo.ensures.lo in
    let e_hi : c.values-hi.result.now ≡ c.args.zbox.now.hi = c.values-hi.ensures.values ∙ c.hi.ensures.hi in
    let e_at : c.values-at.result.now ≡ c.args.point.now = c.values-at.ensures.values in
    let need = rw (e_lo, e_hi, e_at) at c.need_of-bits.ensures.need in
    (needs_next c.args.zbox.now c.args.point.now c.loop-j.j _ _ _ c.need_of-bits.result c.saturating_sub.result _ _ _ c.need_of-bits.ensures.within need (omega (arith, c.saturating_sub.ensures)) c.with_need-needs.ensures.more c.with_need-needs.ensures.fewer c.loop-j.invariant.0, omega (arith, c.loop-j.invariant.1))

pub bounds-at-j : goal.bounds-at-j
bounds-at-j c = c.loop-j-test.true

pub bounds-lo-j : goal.bounds-lo-j
bounds-lo-j c = let e_at = ap (λ (p : List ℕ). length p) c.values-at.ensures.values in let e_lo = ap (λ (p : List ℕ). length p) (c.values-lo.ensures.values ∙ c.lo.ensures.lo) in omega (arith, c.requires.shape, c.loop-j-test.true)

pub bounds-hi-j : goal.bounds-hi-j
bounds-hi-j c = let e_at = ap (λ (p : List ℕ). length p) c.values-at.ensures.values in let e_hi = ap (λ (p : List ℕ). length p) (c.values-hi.ensures.values ∙ c.hi.ensures.hi) in let box = c.shape-shape.ensures.corners in let long_lo = box.lo.0 in let long_hi = box.hi.0 in omega (arith, c.requires.shape, c.loop-j-test.true)

pub need_of-bits-requires : goal.need_of-bits-requires
need_of-bits-requires c =
    let e_lo : c.values-lo.result.now ≡ c.args.zbox.now.lo = c.values-lo.ensures.values ∙ c.lo.ensures.lo in
    let e_hi : c.values-hi.result.now ≡ c.args.zbox.now.hi = c.values-hi.ensures.values ∙ c.hi.ensures.hi in
    let long_at = ap (λ (p : List ℕ). length p) c.values-at.ensures.values in
    rw (e_lo, e_hi) (c.shape-shape.ensures.corners.ordered.1 c.loop-j.j (omega (arith, c.requires.shape, c.loop-j-test.true)))
