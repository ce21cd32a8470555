use Rattle.std.proofs.Common.{arith, ap, ◌∙◌, ℕ, List, length, length-set}
use Rattle.ub_bigmin.proofs.event.lower_edge.Goals as goal

pub bounds-values-dim : goal.bounds-values-dim
bounds-values-dim c = let e = ap (λ (p : List ℕ). length p) (c.values.ensures.values ∙ c.hi.ensures.hi) in let box = c.shape-shape.ensures.corners in let long_lo = box.lo.0 in let long_hi = box.hi.0 in omega (arith, c.requires)

pub load-end-requires-clause-shape : goal.load-end-requires-clause-shape
load-end-requires-clause-shape c = ap (λ (p : List ℕ). length p) c.lo.ensures.lo ∙ c.shape-shape.ensures.corners.lo.0

pub load-end-requires-clause-dimension : goal.load-end-requires-clause-dimension
load-end-requires-clause-dimension c = let box = c.shape-shape.ensures.corners in let long_lo = box.lo.0 in let long_hi = box.hi.0 in omega (arith, c.requires)

pub new-requires-clause-hi : goal.new-requires-clause-hi
new-requires-clause-hi c = ap (λ (p : List ℕ). length p) c.load-end.ensures ∙ length-set c.lo.result.now c.args.dim _ ∙ ap (λ (p : List ℕ). length p) c.lo.ensures.lo ∙ c.shape-shape.ensures.corners.lo.0

pub new-requires-clause-lo : goal.new-requires-clause-lo
new-requires-clause-lo c = ap (λ (p : List ℕ). length p) c.lo-2.ensures.lo ∙ c.shape-shape.ensures.corners.lo.0
