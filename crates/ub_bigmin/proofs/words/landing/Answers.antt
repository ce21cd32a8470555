use Rattle.std.proofs.Common.{arith, ap, ◌∙◌, ◌≡◌, ◌<◌, ℕ, List, length, take, refl, sym}
use Rattle.std.proofs.lemmas.Bool.{false≢true}
use Rattle.ub_bigmin.proofs.NeedFacts.{landed_next, landed_point, nearest_at}
use Rattle.ub_bigmin.proofs.LandingFacts.{met_at, free_at, length_taken}
use Rattle.ub_bigmin.proofs.words.landing.Goals as goal

pub loop-j-preserved : goal.loop-j-preserved
loop-j-preserved c =
    let e_lo : c.values-lo.result.now ≡ c.args.zbox.now.lo = c.values-lo.ensures.values ∙ c.lo.ensures.lo in
    let e_hi : c.values-hi.result.now ≡ c.args.zbox.now.hi = c.values-hi.ensures.values ∙ c.hi.ensures.hi in
    let e_at : c.values-at.result.now ≡ c.args.point.now = c.values-at.ensures.values in
    let e_long = ap (λ (p : List ℕ). length p) e_at in
    let in_c : c.loop-j.j < length c.args.point.now = omega (arith, c.loop-j-test.true) in
    let few = c.values-at.ensures.within in
    let own = rw e_at at c.prefix_at-prefix.ensures.own in
    let other = rw e_at at c.prefix_at-prefix.ensures.other in
    let is = rw (e_lo, e_hi) at c.nearest.ensures in
    let here = nearest_at c.args.zbox.now c.args.point.now c.args.jump.dimension c.args.jump.bit c.args.to c.loop-j.j _ _ c.nearest.result c.requires.jump in_c own other is in
    (landed_next c.args.zbox.now c.args.point.now _ _ _ c.loop-j.landed c.loop-j.j c.nearest.result (omega arith) here c.loop-j.invariant.0, omega (arith, c.loop-j.invariant.1))

pub loop-j-init : goal.loop-j-init
loop-j-init c = (record { four = refl; at = λ j lt. absurd (omega arith) }, omega arith)

pub bounds-at-j : goal.bounds-at-j
bounds-at-j c = c.loop-j-test.true

pub prefix_at-prefix-requires-clause-bit : goal.prefix_at-prefix-requires-clause-bit
prefix_at-prefix-requires-clause-bit c = c.requires.jump.0

pub prefix_at-prefix-requires-clause-to : goal.prefix_at-prefix-requires-clause-to
prefix_at-prefix-requires-clause-to c = c.requires.to

pub bounds-lo-j : goal.bounds-lo-j
bounds-lo-j c = let e_at = ap (λ (p : List ℕ). length p) c.values-at.ensures.values in let e_lo = ap (λ (p : List ℕ). length p) (c.values-lo.ensures.values ∙ c.lo.ensures.lo) in omega (arith, c.requires.shape, c.loop-j-test.true)

pub bounds-hi-j : goal.bounds-hi-j
bounds-hi-j c = let e_at = ap (λ (p : List ℕ). length p) c.values-at.ensures.values in let e_hi = ap (λ (p : List ℕ). length p) (c.values-hi.ensures.values ∙ c.hi.ensures.hi) in let box = c.shape-shape.ensures.corners in let long_lo = box.lo.0 in let long_hi = box.hi.0 in omega (arith, c.requires.shape, c.loop-j-test.true)

pub nearest-requires-clause-ordered : goal.nearest-requires-clause-ordered
nearest-requires-clause-ordered c =
    let e_lo : c.values-lo.result.now ≡ c.args.zbox.now.lo = c.values-lo.ensures.values ∙ c.lo.ensures.lo in
    let e_hi : c.values-hi.result.now ≡ c.args.zbox.now.hi = c.values-hi.ensures.values ∙ c.hi.ensures.hi in
    let long_at = ap (λ (p : List ℕ). length p) c.values-at.ensures.values in
    rw (e_lo, e_hi) (c.shape-shape.ensures.corners.ordered.1 c.loop-j.j (omega (arith, c.requires.shape, c.loop-j-test.true)))

pub nearest-requires-clause-met : goal.nearest-requires-clause-met
nearest-requires-clause-met c =
    let e_lo : c.values-lo.result.now ≡ c.args.zbox.now.lo = c.values-lo.ensures.values ∙ c.lo.ensures.lo in
    let e_hi : c.values-hi.result.now ≡ c.args.zbox.now.hi = c.values-hi.ensures.values ∙ c.hi.ensures.hi in
    let long_at = ap (λ (p : List ℕ). length p) c.values-at.ensures.values in
    let own = rw c.values-at.ensures.values at c.prefix_at-prefix.ensures.own in
    let other = rw c.values-at.ensures.values at c.prefix_at-prefix.ensures.other in
    rw (e_lo, e_hi) (met_at c.args.zbox.now c.args.point.now c.args.jump.dimension c.args.jump.bit c.args.to c.loop-j.j _ _ c.requires.jump own other (omega (arith, c.loop-j-test.true)))

pub nearest-requires-clause-free : goal.nearest-requires-clause-free
nearest-requires-clause-free c =
    let own = rw c.values-at.ensures.values at c.prefix_at-prefix.ensures.own in
    let other = rw c.values-at.ensures.values at c.prefix_at-prefix.ensures.other in
    free_at c.args.zbox.now c.args.point.now c.args.jump.dimension c.args.jump.bit c.args.to c.loop-j.j _ _ c.requires.jump own other

pub nearest-requires-clause-to : goal.nearest-requires-clause-to
nearest-requires-clause-to c = c.requires.to

pub bounds-landed-j : goal.bounds-landed-j
bounds-landed-j c = let e_at = ap (λ (p : List ℕ). length p) c.values-at.ensures.values in let few = c.values-at.ensures.within in omega (arith, c.loop-j-test.true)

pub slice_bounds-landed-end : goal.slice_bounds-landed-end
slice_bounds-landed-end c = let e_at = ap (λ (p : List ℕ). length p) c.values-at.ensures.values in let few = c.values-at.ensures.within in let four = c.loop-j.invariant.0.four in omega arith

pub slice_bounds-new-end : goal.slice_bounds-new-end
slice_bounds-new-end c = let e_at = ap (λ (p : List ℕ). length p) c.values-at.ensures.values in let few = c.values-at.ensures.within in let four = c.loop-j.invariant.0.four in length_taken _ _ (omega arith)

pub unreachable-requires : goal.unreachable-requires
unreachable-requires c =
    let e_at = ap (λ (p : List ℕ). length p) c.values-at.ensures.values in let few = c.values-at.ensures.within in let four = c.loop-j.invariant.0.four in
    let taken = length_taken (length c.values-at.result.now) c.loop-j.landed (omega arith) in
    let shape = c.requires.shape ∙ c.shape-shape.ensures.corners.lo.0 in
    false≢true (c.in-Err.ensures.allowed.1 (sym taken ∙ e_at ∙ shape))

pub unreachable-unreachable : goal.unreachable-unreachable
unreachable-unreachable c =
    let e_at = ap (λ (p : List ℕ). length p) c.values-at.ensures.values in let few = c.values-at.ensures.within in let four = c.loop-j.invariant.0.four in
    let taken = length_taken (length c.values-at.result.now) c.loop-j.landed (omega arith) in
    let shape = c.requires.shape ∙ c.shape-shape.ensures.corners.lo.0 in
    false≢true (c.in-Err.ensures.allowed.1 (sym taken ∙ e_at ∙ shape))

pub returns-clause-point : goal.returns-clause-point
returns-clause-point c =
    let e_at = ap (λ (p : List ℕ). length p) c.values-at.ensures.values in let few = c.values-at.ensures.within in
    let end : c.loop-j.j ≡ length c.values-at.result.now = omega (arith, c.loop-j-test.false, c.loop-j.auto.j-end) in
    let is : c.in-Ok.landed ≡ take (length c.values-at.result.now) c.loop-j.landed = c.in-Ok.ensures.point in
    rw is (landed_point c.args.zbox.now c.args.point.now c.args.jump.dimension c.args.jump.bit c.args.to c.loop-j.landed (length c.values-at.result.now) e_at (omega arith) (rw end at c.loop-j.invariant.0))

pub returns-clause-turns : goal.returns-clause-turns
returns-clause-turns c = let e_at = ap (λ (p : List ℕ). length p) c.values-at.ensures.values in omega (arith, c.loop-j-test.false, c.loop-j.auto.j-end, c.loop-j.invariant.1)
