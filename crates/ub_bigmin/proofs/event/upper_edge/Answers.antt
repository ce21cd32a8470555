use Rattle.std.proofs.Common.{arith, ap, ◌∙◌, ℕ, List, length, length-set}
use Rattle.ub_bigmin.proofs.event.upper_edge.Goals as goal

pub bounds-values-dim : goal.bounds-values-dim
bounds-values-dim c = let e = ap (λ (p : List ℕ). length p) (c.values.ensures.values ∙ c.lo.ensures.lo) in let box = c.shape-shape.ensures.corners in let long_lo = box.lo.0 in let long_hi = box.hi.0 in omega (arith, c.requires)

pub load-start-requires-clause-shape : goal.load-start-requires-clause-shape
load-start-requires-clause-shape c = ap (λ (p : List ℕ). length p) c.hi.ensures.hi ∙ c.shape-shape.ensures.corners.hi.0

pub load-start-requires-clause-dimension : goal.load-start-requires-clause-dimension
load-start-requires-clause-dimension c = let box = c.shape-shape.ensures.corners in let long_lo = box.lo.0 in let long_hi = box.hi.0 in omega (arith, c.requires)

pub new-requires-clause-lo : goal.new-requires-clause-lo
new-requires-clause-lo c = ap (λ (p : List ℕ). length p) c.load-start.ensures ∙ length-set c.hi.result.now c.args.dim _ ∙ ap (λ (p : List ℕ). length p) c.hi.ensures.hi ∙ c.shape-shape.ensures.corners.hi.0

pub new-requires-clause-hi : goal.new-requires-clause-hi
new-requires-clause-hi c = ap (λ (p : List ℕ). length p) c.hi-2.ensures.hi ∙ c.shape-shape.ensures.corners.hi.0
