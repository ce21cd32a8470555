-- Parts in another order: what stands in them is the same, in another order.
use Rattle.std.proofs.Common.{◌<◌, ℕ, zero, suc, Bool, List, [], ◌∷◌, ◌++◌, IsPermutation, filter, get_or, length, set, swap, flat_map, ◌≡◌, ◌∙◌, ap, refl, sym, arith, append_assoc, subst}
use Rattle.std.proofs.lemmas.List.Elements.{filter-append}
use Rattle.std.proofs.lemmas.List.Sorted.{IsPermutation-append_comm, IsPermutation-append_left, IsPermutation-append_right, IsPermutation-keeps, IsPermutation-refl, IsPermutation-trans}

-- what holds of equal lists, goes under a first element and over an exchange of the first two, and chains, holds of permutations
module _ {X : Type 0} (R : List X → List X → Type 0) (same : (xs : List X) → R xs xs) (under : (x : X) (xs ys : List X) → R xs ys → R (x ∷ xs) (x ∷ ys))
    (turn : (x y : X) (xs : List X) → R (x ∷ y ∷ xs) (y ∷ x ∷ xs)) (chain : (xs ys zs : List X) → R xs ys → R ys zs → R xs zs) where
  to_front : (xs : List X) (j : ℕ) (x d : X) → j < length xs → R (x ∷ xs) (get_or xs j d ∷ set xs j x)
  to_front [] j x d within = absurd (omega arith)
  to_front (y ∷ xs) zero x d within = turn x y xs
  to_front (y ∷ xs) (suc j) x d within =
      chain _ _ _ (turn x y xs) (chain _ _ _ (under y _ _ (to_front xs j x d (omega arith))) (turn y (get_or xs j d) (set xs j x)))

  exchanged : (xs : List X) (i j : ℕ) (d : X) → i < length xs → j < length xs → R xs (set (set xs i (get_or xs j d)) j (get_or xs i d))
  exchanged [] i j d at other = absurd (omega arith)
  exchanged (x ∷ xs) zero zero d at other = same (x ∷ xs)
  exchanged (x ∷ xs) zero (suc j) d at other = to_front xs j x d (omega arith)
  exchanged (x ∷ xs) (suc i) zero d at other = to_front xs i x d (omega arith)
  exchanged (x ∷ xs) (suc i) (suc j) d at other = under x _ _ (exchanged xs i j d (omega arith) (omega arith))

  swapped : (xs : List X) (i j : ℕ) → i < length xs → j < length xs → R xs (swap xs i j)
  swapped [] i j at other = same []
  swapped (x ∷ xs) i j at other = exchanged (x ∷ xs) i j x at other

  along : (xs ys : List X) → IsPermutation xs ys → R xs ys
  along xs = IsPermutation-keeps xs (R xs) (same xs) (λ zs i j at other so_far. chain xs zs _ so_far (swapped zs i j at other))

-- the parts of elements
module _ {X Y : Type 0} (part : X → List Y) where
  pub parts_permuted : (xs ys : List X) → IsPermutation xs ys → IsPermutation (flat_map part xs) (flat_map part ys)
  parts_permuted = along (λ xs ys. IsPermutation (flat_map part xs) (flat_map part ys)) (λ xs. IsPermutation-refl (flat_map part xs))
      (λ x xs ys so_far. IsPermutation-append_right (part x) (flat_map part xs) (flat_map part ys) so_far)
      (λ x y xs.
      subst (λ (zs : List Y). IsPermutation zs (part y ++ (part x ++ flat_map part xs))) (append_assoc (part x) (part y) (flat_map part xs))
      (subst (λ (zs : List Y). IsPermutation ((part x ++ part y) ++ flat_map part xs) zs) (append_assoc (part y) (part x) (flat_map part xs))
      (IsPermutation-append_left (flat_map part xs) (part x ++ part y) (part y ++ part x) (IsPermutation-append_comm (part x) (part y)))))
      (λ xs ys zs first second. IsPermutation-trans (flat_map part xs) (flat_map part ys) (flat_map part zs) first second)

  filtered_parts : (p : Y → Bool) (xs : List X) → filter p (flat_map part xs) ≡ flat_map (λ x. filter p (part x)) xs
  filtered_parts p [] = refl
  filtered_parts p (x ∷ xs) = filter-append p (part x) (flat_map part xs) ∙ ap (λ (ys : List Y). filter p (part x) ++ ys) (filtered_parts p xs)

-- those of them that pass a test
pub filtered_permuted : {X Y : Type 0} (part : X → List Y) (p : Y → Bool) (xs ys : List X) → IsPermutation xs ys → IsPermutation (filter p (flat_map part xs)) (filter p (flat_map part ys))
filtered_permuted part p xs ys same =
    subst (λ (zs : List _). IsPermutation zs (filter p (flat_map part ys))) (sym (filtered_parts part p xs))
    (subst (λ (zs : List _). IsPermutation (flat_map (λ x. filter p (part x)) xs) zs) (sym (filtered_parts part p ys)) (parts_permuted (λ x. filter p (part x)) xs ys same))
