-- Numbers of pages that are spelled, and of those that are new.
use Rattle.std.proofs.Common.{inl, inr, arith, ◌≡◌, ◌≢◌, ◌≤◌, ◌++◌, ℕ, List, [], ◌∷◌, false, nat_eq, sym}
use Rattle.ub_index_change.proofs.Common.{all_append, all_more, AllByRecursion, AreOnce, IsDistinct, IsNoNew, IsOutside, IsUnspelled, ne_eqb, Sheet}

pub distinct_put : (m : ℕ) (xs ys : List ℕ) → IsDistinct nat_eq (xs ++ ys) → IsOutside m (xs ++ ys) → IsDistinct nat_eq (xs ++ (m ∷ ys))
unfolding IsDistinct
distinct_put m [] ys h out = (all_more (λ k. m ≢ k) (λ k. nat_eq m k ≡ false) (λ k ne. ne_eqb m k ne) ys out, h)
distinct_put m (x ∷ xs) ys h out = (put xs h.0, distinct_put m xs ys h.1 out.1)
  where
    put : (us : List ℕ) → AllByRecursion (λ k. nat_eq x k ≡ false) (us ++ ys) → AllByRecursion (λ k. nat_eq x k ≡ false) (us ++ (m ∷ ys))
    put [] all = (ne_eqb x m (λ e. out.0 (sym e)), all)
    put (u ∷ us) all = (all.0, put us all.1)

pub outside_put : (n m : ℕ) (xs ys : List ℕ) → n ≢ m → IsOutside n (xs ++ ys) → IsOutside n (xs ++ (m ∷ ys))
outside_put n m [] ys ne out = (ne, out)
outside_put n m (x ∷ xs) ys ne out = (out.0, outside_put n m xs ys ne out.1)

-- numbers of sheets that stand apart
pub once_join : (xs ys : List Sheet) → AreOnce xs → AreOnce ys → AllByRecursion (λ y. IsUnspelled y.number xs) ys → AreOnce (xs ++ ys)
once_join [] ys h k apart = k
once_join (x ∷ xs) ys h k apart = (
  all_append (λ (s : Sheet). x.number ≢ s.number) xs ys h.0
      (all_more (λ (y : Sheet). IsUnspelled y.number (x ∷ xs)) (λ (y : Sheet). x.number ≢ y.number) (λ y u e. u.0 (sym e)) ys apart),
  once_join xs ys h.1 k (all_more (λ (y : Sheet). IsUnspelled y.number (x ∷ xs)) (λ (y : Sheet). IsUnspelled y.number xs) (λ y u. u.1) ys apart),
)

pub no_new_left : (from middle to n : ℕ) → middle ≤ to → IsNoNew from to n → IsNoNew from middle n
no_new_left from middle to n le (inl less) = inl less
no_new_left from middle to n le (inr more) = inr (omega arith)

pub no_new_right : (from middle to n : ℕ) → from ≤ middle → IsNoNew from to n → IsNoNew middle to n
no_new_right from middle to n le (inl less) = inl (omega arith)
no_new_right from middle to n le (inr more) = inr more
