-- Boxes of points, and the addresses in them.
use Rattle.std.specs.Prelude.{◌≡◌, ℕ, List, Contains, ◌≤◌, slice_index}
use Rattle.ub_zaddr.specs.Address.{address, IsAtMost, IsPoint}

-- a box by its two corners
pub record Corners : Type 0 where
  pub lo : List ℕ
  pub hi : List ℕ

-- the points of a box: those between its corners in each coordinate
abbrev pub IsInside : Corners → List ℕ → Type 0
IsInside b p = IsAtMost b.lo p × IsAtMost p b.hi

-- an address is in a box where it is that of one of its points
abbrev pub Holds : Corners → ℕ → Type 0
Holds b z = (p : List ℕ) × IsInside b p × (address p ≡ z)

-- an address is in a list of boxes where one of them holds it
abbrev pub HoldsAny : List Corners → ℕ → Type 0
HoldsAny boxes z = (b : Corners) × Contains boxes b × Holds b z

-- v is a coordinate in a dimension of some point of the boxes whose address lies in the span from .. to
abbrev pub IsValueInSpan : List Corners → ℕ → ℕ → ℕ → ℕ → Type 0
IsValueInSpan boxes from to dim v =
    (b : Corners) × (p : List ℕ) × Contains boxes b × IsInside b p
    × (from ≤ address p) × (address p ≤ to) × (slice_index p dim ≡ v)

-- the corners of a box of d dimensions
pub record IsBox (d : ℕ) (b : Corners) : Type 0 where
  pub some : 1 ≤ d
  pub within : d ≤ 4
  pub lo : IsPoint d b.lo
  pub hi : IsPoint d b.hi
  pub ordered : IsAtMost b.lo b.hi
