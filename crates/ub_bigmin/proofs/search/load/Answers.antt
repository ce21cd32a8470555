use Rattle.std.proofs.Common.{arith, ap, ℕ, List, length}
use Rattle.ub_bigmin.proofs.search.load.Goals as goal

pub slice_bounds-values-end : goal.slice_bounds-values-end
slice_bounds-values-end c = let e = ap (λ (p : List ℕ). length p) c.values-old.ensures.values in let few = c.values-old.ensures.within in omega arith

pub bounds-values-dimension : goal.bounds-values-dimension
bounds-values-dimension c = let e = ap (λ (p : List ℕ). length p) c.values-old.ensures.values in let few = c.values-old.ensures.within in omega (arith, c.requires.shape, c.requires.dimension)
