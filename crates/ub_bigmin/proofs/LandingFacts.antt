-- Points that are made one coordinate at a time: what their places hold after each turn, and what is made at the end.
use Rattle.std.proofs.Common.{◌≡◌, ◌≤◌, ◌<◌, ◌+◌, ◌/◌, ◌^◌, ℕ, max, min, List, length, slice_index, get_or, set, take, ◌∙◌, sym, arith, inl, inr, get_or-set_same, get_or-set_other, length-set}
use Rattle.std.proofs.lemmas.Bool.{cases_eq}
use Rattle.std.proofs.lemmas.List.{get_or-take, length-take-le}
use Rattle.ub_bigmin.specs.Box.{Corners}
use Rattle.ub_bigmin.specs.Cells.{prefix, free_below, IsPrefixOf}
use Rattle.ub_bigmin.specs.Halves.{IsJoin, IsMeet}
use Rattle.ub_bigmin.specs.Jumps.{IsJump}

-- the prefix of a jump's cell in a dimension is that of some coordinate of the box, and leaves at most 32 bits free
module _ (b : Corners) (c : List ℕ) (i k v j x free : ℕ) (jump : IsJump b c v i k)
    (own : j ≡ i → (x ≡ prefix (slice_index c j) k v) × (free ≡ k)) (other : (j ≡ i → ⊥) → (x ≡ slice_index c j / 2 ^ free) × (free ≡ free_below i k j)) where
  pub met_at : j < length c → IsPrefixOf (slice_index b.lo j) (slice_index b.hi j) x free
  met_at hj = elim (cases_eq j i) [
    | inl e ↦ let (ex, ef) = own e in rw (ex, ef) (rw e jump.2.0)
    | inr o ↦ let (ex, ef) = other o in rw (ex, ef) (jump.2.1 j hj o)
  ]

  pub free_at : free ≤ 32
  free_at = elim (cases_eq j i) [
    | inl e ↦ let ef = (own e).1 in let lt = jump.0 in omega arith
    | inr o ↦ let ef = (other o).1 in let lt = jump.0 in omega arith
  ]

-- the first t of four places hold the values of f, and then the first t + 1
pub places_next : (f : ℕ → ℕ) (places : List ℕ) (t x : ℕ) → t < 4 → x ≡ f t → (length places ≡ 4) × ((j : ℕ) → j < t → slice_index places j ≡ f j)
    → (length (set places t x) ≡ 4) × ((j : ℕ) → j < t + 1 → slice_index (set places t x) j ≡ f j)
places_next f places t x t_in is (four, old) = (
  length-set places t x ∙ four,
  λ j lt. elim (cases_eq j t) [
    | inl e ↦ let same : get_or (set places t x) t 0 ≡ x = get_or-set_same places t x 0 (omega arith) in rw e (same ∙ is)
    | inr other ↦ get_or-set_other places t j x 0 other ∙ old j (apart j lt other)
  ],
)
  where
    apart : (j : ℕ) → j < t + 1 → (j ≡ t → ⊥) → j < t
    apart j lt other = omega arith

pub length_taken : (n : ℕ) (places : List ℕ) → n ≤ length places → n ≡ length (take n places)
length_taken n places le = sym (length-take-le n places le)

-- the point taken of the places of the lesser or the greater coordinates
module _ (p q places : List ℕ) (n : ℕ) (long_p : length p ≡ n) (long_q : length q ≡ n) (four : length places ≡ 4) (few : n ≤ 4) where
  taken : (j : ℕ) → j < n → slice_index (take n places) j ≡ slice_index places j
  taken j lt = get_or-take n places j 0 lt

  long : length (take n places) ≡ n
  long = length-take-le n places (omega arith)

  pub meet_taken : ((j : ℕ) → j < n → slice_index places j ≡ min (slice_index p j) (slice_index q j)) → IsMeet p q (take n places)
  meet_taken at r = let l = long in (
    λ (e, le). (
      (omega arith, λ j hj. let a = le j hj in let b = at j (omega arith) in let c = taken j (omega arith) in omega arith),
      (omega arith, λ j hj. let a = le j hj in let b = at j (omega arith) in let c = taken j (omega arith) in omega arith),
    ),
    λ ((ep, lp), (eq, lq)). (omega arith, λ j hj. let a = lp j hj in let a2 = lq j hj in let b = at j (omega arith) in let c = taken j (omega arith) in omega arith),
  )

  pub join_taken : ((j : ℕ) → j < n → slice_index places j ≡ max (slice_index p j) (slice_index q j)) → IsJoin p q (take n places)
  join_taken at r = let l = long in (
    λ (e, le). (
      (omega arith, λ j hj. let a = le j (omega arith) in let b = at j (omega arith) in let c = taken j (omega arith) in omega arith),
      (omega arith, λ j hj. let a = le j (omega arith) in let b = at j (omega arith) in let c = taken j (omega arith) in omega arith),
    ),
    λ ((ep, lp), (eq, lq)). (omega arith, λ j hj. let a = lp j (omega arith) in let a2 = lq j (omega arith) in let b = at j (omega arith) in let c = taken j (omega arith) in omega arith),
  )
