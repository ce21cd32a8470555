-- Measures put one after the other in the place of zeros.
use Rattle.std.proofs.Common.{◌≡◌, ℕ, ℤ, pos, zero, suc, List, [], ◌∷◌, ◌++◌, Some, take, replicate, sym, ap, subst, slice_get, slice_set}
use Rattle.std.specs.Prelude.{FitsSigned}
use Rattle.std.specs.Int.{w64}
use Rattle.std.specs.List.{AllByRecursion}

pub filled_next : (ms : List ℤ) (i left : ℕ) (x : ℤ) → slice_get ms i ≡ Some x → slice_set (take i ms ++ replicate (suc left) (pos 0)) i x ≡ take (suc i) ms ++ replicate left (pos 0)
filled_next [] i left x at = cc
filled_next (m ∷ ms) zero left x at = let same : m ≡ x = cc in ap (λ (y : ℤ). y ∷ replicate left (pos 0)) (sym same)
filled_next (m ∷ ms) (suc i) left x at = ap (λ (ys : List ℤ). m ∷ ys) (filled_next ms i left x at)

pub measured_next : (ms : List ℤ) (i : ℕ) (x : ℤ) → slice_get ms i ≡ Some x → FitsSigned w64 x → AllByRecursion (λ y. FitsSigned w64 y) (take i ms) → AllByRecursion (λ y. FitsSigned w64 y) (take (suc i) ms)
measured_next [] i x at fits all = cc
measured_next (m ∷ ms) zero x at fits all = let same : m ≡ x = cc in (subst (λ (y : ℤ). FitsSigned w64 y) (sym same) fits, tt)
measured_next (m ∷ ms) (suc i) x at fits all = (all.0, measured_next ms i x at fits all.1)
