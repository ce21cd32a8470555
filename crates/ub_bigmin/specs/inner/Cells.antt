-- Of cells, what proofs alone cite: the points of a box in a cell, and from which bits on a number reaches another one.
use Rattle.std.specs.Prelude.{◌≡◌, ℕ, ◌+◌, ◌/◌, ◌^◌, ◌<◌, ◌≤◌, ◌↔◌, List, length, slice_index}
use Rattle.ub_bigmin.specs.Box.{Corners}
use Rattle.ub_bigmin.specs.Cells.{free_below, greatest_with, least_with, prefix}

-- m agrees with z above place p and has the bit v there; what it has below is free
abbrev pub IsInCell : ℕ → ℕ → ℕ → ℕ → Type 0
IsInCell z p v m = m / 2 ^ p ≡ prefix z p v

-- the prefixes, by dimension, of the points whose addresses agree with that of c above bit k of dimension i and have v there
abbrev pub HasPrefixes : List ℕ → ℕ → ℕ → ℕ → List ℕ → Type 0
HasPrefixes c i k v q =
    (slice_index q i / 2 ^ k ≡ prefix (slice_index c i) k v)
    × ((j : ℕ) → j < length c → (j ≡ i → ⊥)
    → slice_index q j / 2 ^ free_below i k j ≡ slice_index c j / 2 ^ free_below i k j)

-- the least and the greatest coordinate in dimension j of the points of the box that lie in the cell; of dimension i
-- itself `least_with` and `greatest_with` of `prefix (slice_index c i) k v`
abbrev pub least_beside : Corners → List ℕ → ℕ → ℕ → ℕ → ℕ
least_beside b c i k j = least_with (slice_index b.lo j) (slice_index c j / 2 ^ free_below i k j) (free_below i k j)

abbrev pub greatest_beside : Corners → List ℕ → ℕ → ℕ → ℕ → ℕ
greatest_beside b c i k j = greatest_with (slice_index b.hi j) (slice_index c j / 2 ^ free_below i k j) (free_below i k j)

-- the least point of the box in the cell, and the greatest
abbrev pub IsLeastPoint : Corners → List ℕ → ℕ → ℕ → ℕ → List ℕ → Type 0
IsLeastPoint b c i k v q =
    (length q ≡ length c) × (slice_index q i ≡ least_with (slice_index b.lo i) (prefix (slice_index c i) k v) k)
    × ((j : ℕ) → j < length c → (j ≡ i → ⊥) → slice_index q j ≡ least_beside b c i k j)

abbrev pub IsGreatestPoint : Corners → List ℕ → ℕ → ℕ → ℕ → List ℕ → Type 0
IsGreatestPoint b c i k v q =
    (length q ≡ length c) × (slice_index q i ≡ greatest_with (slice_index b.hi i) (prefix (slice_index c i) k v) k)
    × ((j : ℕ) → j < length c → (j ≡ i → ⊥) → slice_index q j ≡ greatest_beside b c i k j)

-- from bit g up the number x, with 1 in place of a 0, is not below low; with 0 in place of a 1 it is not above high
abbrev pub IsLift : ℕ → ℕ → ℕ → Type 0
IsLift low x g = (k : ℕ) → (g ≤ k) ↔ (low / 2 ^ (k + 1) ≤ x / 2 ^ (k + 1))

abbrev pub IsSink : ℕ → ℕ → ℕ → Type 0
IsSink high x g = (k : ℕ) → (g ≤ k) ↔ (x / 2 ^ (k + 1) ≤ high / 2 ^ (k + 1))

-- x differs from a number above it just at bits below t and not from t up: its highest such bit is t - 1; and below it
abbrev pub IsTop : ℕ → ℕ → ℕ → Type 0
IsTop x high t = (k : ℕ) → (k < t) ↔ (x / 2 ^ k < high / 2 ^ k)

-- q lies between the least and the greatest point of the box in the cell
abbrev pub IsInPart : Corners → List ℕ → ℕ → ℕ → ℕ → List ℕ → Type 0
IsInPart b c i k v q =
    (length q ≡ length c)
    × (least_with (slice_index b.lo i) (prefix (slice_index c i) k v) k ≤ slice_index q i)
    × (slice_index q i ≤ greatest_with (slice_index b.hi i) (prefix (slice_index c i) k v) k)
    × ((j : ℕ) → j < length c → (j ≡ i → ⊥)
    → (least_beside b c i k j ≤ slice_index q j) × (slice_index q j ≤ greatest_beside b c i k j))
