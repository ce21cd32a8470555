-- The search begins with the whole box and ends at the address itself.
use Rattle.std.proofs.Common.{◌≡◌, ◌<◌, ◌≤◌, ◌*◌, ◌^◌, ◌-◌, ◌+◌, arith}
use Rattle.std.proofs.lemmas.Nat.{pow_pos}
use Rattle.ub_bigmin.proofs.AroundFacts.{around_start, around_end, neighbours_at, neighbours_past}
use Rattle.ub_bigmin.proofs.search.find_neighbours.Goals as goal

pub returns-then-last-z : goal.returns-then-last-z
returns-then-last-z c =
    let box = c.shape-shape.ensures.corners in
    let big : 2 ^ (32 * c.shape-shape.result) ≤ c.args.z = let pos = pow_pos (32 * c.shape-shape.result) in omega (arith, c.last.ensures) in
    rw (c.interleave.ensures.address, c.hi.ensures.hi) (neighbours_past c.shape-shape.result _ box.hi box.ordered c.args.z big)

pub loop-place-init : goal.loop-place-init
loop-place-init c =
    let box = c.shape-shape.ensures.corners in
    let small : c.args.z < 2 ^ (32 * c.shape-shape.result) = let pos = pow_pos (32 * c.shape-shape.result) in omega (arith, c.last.ensures) in
    rw (c.dims-place.ensures.same, c.lo.ensures.lo, c.hi-2.ensures.hi) (around_start c.shape-shape.result _ box.hi box.ordered c.args.z small)

pub take_step-requires-clause-around : goal.take_step-requires-clause-around
take_step-requires-clause-around c = let e : c.loop-place.place - 1 + 1 ≡ c.loop-place.place = omega arith in rw e c.loop-place.invariant

pub loop-place-preserved : goal.loop-place-preserved
loop-place-preserved c = c.in-Onward.ensures

pub returns : goal.returns
returns c =
    let box = c.shape-shape.ensures.corners in
    let last : c.loop-place.place ≡ 0 = omega arith in
    neighbours_at _ c.args.z (around_end c.shape-shape.result _ box.hi box.ordered c.args.z _ _ _ _ (rw last at c.loop-place.invariant))
