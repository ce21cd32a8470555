use Rattle.std.proofs.Common.{arith, ap, ◌∙◌, ◌≡◌, ℕ, List, length, slice_index, take, min, refl, sym}
use Rattle.std.proofs.lemmas.Bool.{false≢true}
use Rattle.ub_bigmin.proofs.LandingFacts.{places_next, length_taken, meet_taken}
use Rattle.ub_bigmin.proofs.event.meet.Goals as goal

pub loop-i-init : goal.loop-i-init
loop-i-init c = (refl, λ j lt. absurd (omega arith))

pub bounds-p-i : goal.bounds-p-i
bounds-p-i c = c.loop-i-test.true

pub bounds-q-i : goal.bounds-q-i
bounds-q-i c = let e_p = ap (λ (p : List ℕ). length p) c.values-p.ensures.values in let e_q = ap (λ (p : List ℕ). length p) c.values-q.ensures.values in omega (arith, c.requires.p, c.requires.q, c.loop-i-test.true)

pub bounds-values-i : goal.bounds-values-i
bounds-values-i c = let e_p = ap (λ (p : List ℕ). length p) c.values-p.ensures.values in let few = c.values-p.ensures.within in omega (arith, c.loop-i-test.true)

pub loop-i-preserved : goal.loop-i-preserved
loop-i-preserved c = let e_p = ap (λ (p : List ℕ). length p) c.values-p.ensures.values in let few = c.values-p.ensures.within in places_next (λ j. min (slice_index c.values-p.result.now j) (slice_index c.values-q.result.now j)) c.loop-i.values c.loop-i.i c.min.result (omega (arith, c.loop-i-test.true)) c.min.ensures c.loop-i.invariant

pub slice_bounds-values-end : goal.slice_bounds-values-end
slice_bounds-values-end c = let e_p = ap (λ (p : List ℕ). length p) c.values-p.ensures.values in let few = c.values-p.ensures.within in let four = c.loop-i.invariant.0 in omega arith

pub slice_bounds-new-end : goal.slice_bounds-new-end
slice_bounds-new-end c = let e_p = ap (λ (p : List ℕ). length p) c.values-p.ensures.values in let few = c.values-p.ensures.within in let four = c.loop-i.invariant.0 in length_taken _ _ (omega arith)

pub unreachable-requires : goal.unreachable-requires
unreachable-requires c =
    let e_p = ap (λ (p : List ℕ). length p) c.values-p.ensures.values in let few = c.values-p.ensures.within in let four = c.loop-i.invariant.0 in
    let taken = length_taken (length c.values-p.result.now) c.loop-i.values (omega arith) in
    false≢true (c.in-Err.ensures.allowed.1 (sym taken ∙ e_p ∙ c.requires.p))

pub unreachable-unreachable : goal.unreachable-unreachable
unreachable-unreachable c =
    let e_p = ap (λ (p : List ℕ). length p) c.values-p.ensures.values in let few = c.values-p.ensures.within in let four = c.loop-i.invariant.0 in
    let taken = length_taken (length c.values-p.result.now) c.loop-i.values (omega arith) in
    false≢true (c.in-Err.ensures.allowed.1 (sym taken ∙ e_p ∙ c.requires.p))

pub returns : goal.returns
returns c =
    let e_p = ap (λ (p : List ℕ). length p) c.values-p.ensures.values in let e_q = ap (λ (p : List ℕ). length p) c.values-q.ensures.values in let few = c.values-p.ensures.within in
    let end : c.loop-i.i ≡ length c.values-p.result.now = omega (arith, c.loop-i-test.false, c.loop-i.auto.i-end) in
    let held = rw (end, c.values-p.ensures.values, c.values-q.ensures.values) at c.loop-i.invariant in
    let is : c.in-Ok.point ≡ take (length c.values-p.result.now) c.loop-i.values = c.in-Ok.ensures.point in
    rw (is, c.values-p.ensures.values) (meet_taken c.args.p.now c.args.q.now c.loop-i.values (length c.args.p.now) refl (c.requires.q ∙ sym c.requires.p) held.0 (omega arith) held.1)
