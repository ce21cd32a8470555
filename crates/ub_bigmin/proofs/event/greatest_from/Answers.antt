-- The greatest corner of the part has the greatest address and the greatest coordinate.
use Rattle.std.proofs.Common.{arith, refl}
use Rattle.ub_bigmin.proofs.PartFacts.{end_outside, end_past, end_greatest}
use Rattle.ub_bigmin.proofs.event.greatest_from.Goals.{then-not-is_at_most-via-then-not-is_at_most, then-not-is_at_most-via-else-not-is_at_most+then-interleave-z}
use Rattle.ub_bigmin.proofs.event.greatest_from.Goals as goal

pub returns-then-not-is_at_most : goal.returns-then-not-is_at_most
returns-then-not-is_at_most c = elim c.then-not-is_at_most.branch [
  | then-not-is_at_most-via-then-not-is_at_most w ↦
      end_outside _ c.args.zbox.now c.end_at-end.ensures.corners c.args.z c.args.free _ c.end_at-end.ensures.end (λ over. let t = (rw c.lo.ensures.lo at w.if-not-is_at_most.ensures.point).1 over in cc) c.args.dim
  | then-not-is_at_most-via-else-not-is_at_most+then-interleave-z w ↦
      let at = w.interleave.ensures.address in
      end_past _ c.args.zbox.now c.end_at-end.ensures.corners c.args.z c.args.free _ c.end_at-end.ensures.end (let lt = w.if-interleave-z.true in omega arith) c.args.dim
]

pub returns : goal.returns
returns c =
    let at = c.interleave.ensures.address in
    let long = c.end_at-end.ensures.length in
    rw c.values.ensures.values
    (end_greatest _ c.args.zbox.now c.end_at-end.ensures.corners c.args.z c.args.free _ c.end_at-end.ensures.end c.args.dim (let dim = c.requires.dim in omega arith)
    ((rw c.lo.ensures.lo at c.if-not-is_at_most.ensures.point).0 refl) (let le = c.if-interleave-z.false in omega arith))
