-- A span of addresses in two halves: its numbers agree with its start from some place up, or with its end.
use Rattle.std.specs.Prelude.{◌≡◌, ℕ, ◌+◌, ◌-◌, ◌*◌, ◌/◌, ◌^◌, ◌≤◌, ◌↔◌, List, Option, MatchOption, length, slice_index}
use Rattle.ub_zaddr.specs.Address.{address, IsAtMost, IsPoint}
use Rattle.ub_bigmin.specs.Box.{Corners, IsInside}

-- from place k up the two ends of the span are neighbours, or they are one and no place is left below
pub record IsHalvedAt (from to k : ℕ) : Type 0 where
  pub ordered : from ≤ to
  pub near : to / 2 ^ k ≤ from / 2 ^ k + 1
  pub one : from / 2 ^ k ≡ to / 2 ^ k → k ≡ 0

-- the numbers from z on that agree with z from place k up, and those up to z
abbrev pub IsHalfFrom : ℕ → ℕ → ℕ → Type 0
IsHalfFrom k z a = (a / 2 ^ k ≡ z / 2 ^ k) × (z ≤ a)

abbrev pub IsHalfUpTo : ℕ → ℕ → ℕ → Type 0
IsHalfUpTo k z a = (a / 2 ^ k ≡ z / 2 ^ k) × (a ≤ z)

-- v is a coordinate in a dimension of some point of the box whose address is in a set
abbrev pub IsValueOf : Corners → (ℕ → Type 0) → ℕ → ℕ → Type 0
IsValueOf b P dim v = (p : List ℕ) × IsInside b p × P (address p) × (slice_index p dim ≡ v)

-- a coordinate was found, and of those of the set none is less
abbrev pub IsUnder : Corners → (ℕ → Type 0) → ℕ → Option ℕ → Type 0
IsUnder b P dim found = MatchOption found ⊥ (λ n. (v : ℕ) → IsValueOf b P dim v → n ≤ v)

-- a coordinate was found, and of those of the set none is greater
abbrev pub IsOver : Corners → (ℕ → Type 0) → ℕ → Option ℕ → Type 0
IsOver b P dim found = MatchOption found ⊥ (λ n. (v : ℕ) → IsValueOf b P dim v → v ≤ n)

-- the part of a box whose addresses agree with z from place k up is again a box, or empty
abbrev pub IsPart : Corners → ℕ → ℕ → Option Corners → Type 0
IsPart b z k part = MatchOption part
    ((p : List ℕ) → IsInside b p → ¬ (address p / 2 ^ k ≡ z / 2 ^ k))
    (λ c. (length c.lo ≡ length b.lo) × ((p : List ℕ) → IsInside c p ↔ (IsInside b p × (address p / 2 ^ k ≡ z / 2 ^ k))))

-- a point is at least each of two exactly where it is at least their join, and at most each where at most their meet
abbrev pub IsJoin : List ℕ → List ℕ → List ℕ → Type 0
IsJoin p q join = (r : List ℕ) → IsAtMost join r ↔ (IsAtMost p r × IsAtMost q r)

abbrev pub IsMeet : List ℕ → List ℕ → List ℕ → Type 0
IsMeet p q meet = (r : List ℕ) → IsAtMost r meet ↔ (IsAtMost r p × IsAtMost r q)

-- the join of the box's least corner and the point of the least address that agrees with z from place k up: the least corner
-- of that part, where it isn't empty
abbrev pub IsStart : Corners → ℕ → ℕ → List ℕ → Type 0
IsStart b z k start = (low : List ℕ) × IsPoint (length b.lo) low × (address low ≡ z / 2 ^ k * 2 ^ k) × IsJoin b.lo low start

-- the meet of the box's greatest corner and the point of the greatest such address: the part's greatest corner
abbrev pub IsEnd : Corners → ℕ → ℕ → List ℕ → Type 0
IsEnd b z k end = (high : List ℕ) × IsPoint (length b.lo) high × (address high ≡ z / 2 ^ k * 2 ^ k + (2 ^ k - 1)) × IsMeet b.hi high end
