-- Keys compared as pairs of an address and a number are.
use Rattle.std.proofs.Common.{◌≡◌, ◌==◌, ◌||◌, ◌&&◌, ◌+◌, ◌∙◌, inl, inr, ℕ, Bool, true, false, List, length, nat_lt, refl, sym}
use Rattle.std.proofs.lemmas.Bool.{cases_Bool}
use Rattle.std.specs.List.Sorted.{IsSortedBy, IsSortedByKey}
use Rattle.std.specs.Ordering.{is_lt, nat_cmp, ordering_then}

-- of two pairs the lesser one is that with the lesser first part, or with the lesser second part where the first ones are the same
pub pair_less : (z w m n : ℕ) → is_lt (ordering_then (nat_cmp z w) (nat_cmp m n)) ≡ nat_lt z w || ((z == w) && nat_lt m n)
pair_less z w m n = elim (cases_Bool (nat_lt z w)) [
  | inl less ↦ rw less refl
  | inr not_less ↦ elim (cases_Bool (z == w)) [
    | inl same ↦ elim (cases_Bool (nat_lt m n)) [
      | inl less ↦ rw (not_less, same, less) refl
      | inr more ↦ elim (cases_Bool (m == n)) [
        | inl alike ↦ rw (not_less, same, more, alike) refl
        | inr differ ↦ rw (not_less, same, more, differ) refl
      ]
    ]
    | inr differ ↦ rw (not_less, differ) refl
  ]
]

-- what is sorted by one comparison is sorted by another that answers the same
pub sorted_same : {X : Type 0} (less other : X → X → Bool) (xs : List X) → ((x y : X) → less x y ≡ other x y) → IsSortedBy less xs → IsSortedBy other xs
sorted_same less other xs same sorted k d from to = sym (same _ _) ∙ sorted k d from to
