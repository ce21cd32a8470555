-- Points in each coordinate: the order of corners, and a coordinate changed.
use Rattle.std.proofs.Common.{◌≡◌, ◌≤◌, ◌<◌, ◌^◌, ℕ, List, length, get_or, set, refl, sym, ap, ◌∙◌, arith, ◌⊎◌, inl, inr, slice_index, slice_set, length-set}
use Rattle.std.proofs.lemmas.Bool.{cases_eq}
use Rattle.std.proofs.lemmas.List.{get_or-set_same, get_or-set_other}
use Rattle.std.proofs.lemmas.List.Elements.{All-from_get_or}
use Rattle.ub_zaddr.specs.Address.{IsAtMost, IsPoint}

pub IsAtMost-refl : (p : List ℕ) → IsAtMost p p
IsAtMost-refl p = (refl, λ i h. omega arith)

pub IsAtMost-trans : (p q r : List ℕ) → IsAtMost p q → IsAtMost q r → IsAtMost p r
IsAtMost-trans p q r a b =
    let e = a.0 in
    (a.0 ∙ b.0, λ i h. let low = a.1 i h in let high = b.1 i (omega arith) in omega arith)

-- what is at most a point of d dimensions is one too
pub IsPoint-below : (d : ℕ) (p q : List ℕ) → IsAtMost p q → IsPoint d q → IsPoint d p
IsPoint-below d p q a b =
    let e = a.0 in
    (e ∙ b.0, All-from_get_or (λ x. x < 2 ^ 32) p 0 (λ i h. let low = a.1 i h in let high = b.1 i 0 (omega arith) in omega arith))

pub get_or-set : (p : List ℕ) (i j v : ℕ) → i < length p → ((j ≡ i) × (get_or (set p i v) j 0 ≡ v)) ⊎ ((j ≡ i → ⊥) × (get_or (set p i v) j 0 ≡ get_or p j 0))
get_or-set p i j v h = elim (cases_eq j i) [
  | inl e ↦ inl (e, ap (λ (k : ℕ). get_or (set p i v) k 0) e ∙ get_or-set_same p i v 0 h)
  | inr n ↦ inr (n, get_or-set_other p i j v 0 n)
]

-- a coordinate of the lower point changed to one that is not above the other's
pub IsAtMost-set_left : (p q : List ℕ) (i v : ℕ) → IsAtMost p q → i < length p → v ≤ slice_index q i → IsAtMost (slice_set p i v) q
IsAtMost-set_left p q i v a h le =
    let long : length (slice_set p i v) ≡ length p = length-set p i v in (
      long ∙ a.0,
      λ j hj. elim (get_or-set p i j v h) [
        | inl s ↦ let here = s.1 in let place : get_or q j 0 ≡ get_or q i 0 = ap (λ (k : ℕ). get_or q k 0) s.0 in omega arith
        | inr o ↦ let there = o.1 in let old = a.1 j (omega arith) in omega arith
      ],
    )

-- a coordinate of the upper point changed to one that is not below the other's
pub IsAtMost-set_right : (p q : List ℕ) (i v : ℕ) → IsAtMost p q → i < length q → slice_index p i ≤ v → IsAtMost p (slice_set q i v)
IsAtMost-set_right p q i v a h le =
    let long : length (slice_set q i v) ≡ length q = length-set q i v in (
      a.0 ∙ sym long,
      λ j hj. elim (get_or-set q i j v h) [
        | inl s ↦ let here = s.1 in let place : get_or p j 0 ≡ get_or p i 0 = ap (λ (k : ℕ). get_or p k 0) s.0 in omega arith
        | inr o ↦ let there = o.1 in let old = a.1 j (omega arith) in omega arith
      ],
    )

-- a coordinate changed in two points
pub IsAtMost-set_both : (p q : List ℕ) (i v w : ℕ) → IsAtMost p q → i < length p → v ≤ w → IsAtMost (slice_set p i v) (slice_set q i w)
IsAtMost-set_both p q i v w a h le =
    let long : length (slice_set p i v) ≡ length p = length-set p i v in
    let same = a.0 in (
      long ∙ a.0 ∙ sym (length-set q i w),
      λ j hj. elim (get_or-set p i j v h) [
        | inl s ↦ let left = s.1 in let right : get_or (set q i w) j 0 ≡ w = ap (λ (k : ℕ). get_or (set q i w) k 0) s.0 ∙ get_or-set_same q i w 0 (omega arith) in omega arith
        | inr o ↦ let left = o.1 in let right : get_or (set q i w) j 0 ≡ get_or q j 0 = get_or-set_other q i j w 0 o.0 in let old = a.1 j (omega arith) in omega arith
      ],
    )

-- a coordinate changed once more
pub IsAtMost-reset_left : (p q : List ℕ) (i v w : ℕ) → IsAtMost (slice_set p i v) q → i < length p → w ≤ slice_index q i → IsAtMost (slice_set p i w) q
IsAtMost-reset_left p q i v w a h le =
    let long : length (slice_set p i w) ≡ length (slice_set p i v) = length-set p i w ∙ sym (length-set p i v) in (
      long ∙ a.0,
      λ j hj. elim (get_or-set p i j w h) [
        | inl s ↦ let left = s.1 in let place : get_or q j 0 ≡ get_or q i 0 = ap (λ (k : ℕ). get_or q k 0) s.0 in omega arith
        | inr o ↦ let left = o.1 in let old : get_or (set p i v) j 0 ≡ get_or p j 0 = get_or-set_other p i j v 0 o.0 in let low = a.1 j (omega arith) in omega arith
      ],
    )

pub IsAtMost-reset_right : (p q : List ℕ) (i v w : ℕ) → IsAtMost p (slice_set q i v) → i < length q → slice_index p i ≤ w → IsAtMost p (slice_set q i w)
IsAtMost-reset_right p q i v w a h le =
    let long : length (slice_set q i w) ≡ length (slice_set q i v) = length-set q i w ∙ sym (length-set q i v) in (
      a.0 ∙ sym long,
      λ j hj. elim (get_or-set q i j w h) [
        | inl s ↦ let right = s.1 in let place : get_or p j 0 ≡ get_or p i 0 = ap (λ (k : ℕ). get_or p k 0) s.0 in omega arith
        | inr o ↦ let right = o.1 in let old : get_or (set q i v) j 0 ≡ get_or q j 0 = get_or-set_other q i j v 0 o.0 in let high = a.1 j hj in omega arith
      ],
    )
