-- The least corner of the part has the least address and the least coordinate.
use Rattle.std.proofs.Common.{arith, refl}
use Rattle.ub_bigmin.proofs.PartFacts.{start_outside, start_past, start_least}
use Rattle.ub_bigmin.proofs.event.least_up_to.Goals.{then-not-is_at_most-via-then-not-is_at_most, then-not-is_at_most-via-else-not-is_at_most+then-z-interleave}
use Rattle.ub_bigmin.proofs.event.least_up_to.Goals as goal

pub returns-then-not-is_at_most : goal.returns-then-not-is_at_most
returns-then-not-is_at_most c = elim c.then-not-is_at_most.branch [
  | then-not-is_at_most-via-then-not-is_at_most w ↦
      start_outside _ c.args.zbox.now c.start_at-start.ensures.corners c.args.z c.args.free _ c.start_at-start.ensures.start (λ under. let t = (rw c.hi.ensures.hi at w.if-not-is_at_most.ensures.point).1 under in cc) c.args.dim
  | then-not-is_at_most-via-else-not-is_at_most+then-z-interleave w ↦
      let at = w.interleave.ensures.address in
      start_past _ c.args.zbox.now c.start_at-start.ensures.corners c.args.z c.args.free _ c.start_at-start.ensures.start (let lt = w.if-z-interleave.true in omega arith) c.args.dim
]

pub returns : goal.returns
returns c =
    let at = c.interleave.ensures.address in
    let long = c.start_at-start.ensures.length in
    rw c.values.ensures.values
    (start_least _ c.args.zbox.now c.start_at-start.ensures.corners c.args.z c.args.free _ c.start_at-start.ensures.start c.args.dim (let dim = c.requires.dim in omega arith)
    ((rw c.hi.ensures.hi at c.if-not-is_at_most.ensures.point).0 refl) (let le = c.if-z-interleave.false in omega arith))
