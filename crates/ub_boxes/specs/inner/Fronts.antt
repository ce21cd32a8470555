-- Boxes of the first dimensions of a space, and how they lie in four places.
use Rattle.std.specs.Prelude.{◌≡◌, ℕ, ◌≤◌, ◌<◌, ◌^◌, Bool, List, [], ◌∷◌, ◌++◌, length, map, take, All}
use Rattle.std.specs.List.{flat_map}
use Rattle.ub_bigmin.specs.Box.{Corners}
use Rattle.ub_boxes.specs.Boxes.{runs}
use Rattle.ub_boxes.specs.declared.interval.Interval.{Interval}
use Rattle.ub_zaddr.specs.Address.{IsAtMost}

-- the corners of a box of at most four dimensions
pub record IsFront (b : Corners) : Type 0 where
  pub within : length b.lo ≤ 4
  pub ordered : IsAtMost b.lo b.hi
  pub lo : All (λ x. x < 2 ^ 32) b.lo
  pub hi : All (λ x. x < 2 ^ 32) b.hi

-- the first of four places each hold such a box
pub record IsInPlaces (lo hi : List ℕ) (dims : ℕ) : Type 0 where
  pub some_lo : length lo ≡ 4
  pub some_hi : length hi ≡ 4
  pub within : dims ≤ 4
  pub ordered : IsAtMost (take dims lo) (take dims hi)
  pub words_lo : All (λ x. x < 2 ^ 32) (take dims lo)
  pub words_hi : All (λ x. x < 2 ^ 32) (take dims hi)

-- a front, which is a box of the first dimensions, and an interval of the next dimension
abbrev pub widened : Corners → Interval → Corners
widened front interval = record { lo = front.lo ++ interval.low ∷ []; hi = front.hi ++ interval.high ∷ [] }

-- a test of the points that begin with the least corner of a front, by their next coordinate
abbrev pub after : Corners → (List ℕ → Bool) → ℕ → Bool
after front test low = test (front.lo ++ low ∷ [])

-- the boxes whose first dimensions are those of a front
abbrev pub boxes_from : (List ℕ → Bool) → Corners → List (List Interval) → List Corners
boxes_from test front [] = []
boxes_from test front (side ∷ []) = map (widened front) (runs (after front test) side)
boxes_from test front (side ∷ next ∷ sides) =
    flat_map (λ interval. boxes_from test (widened front interval) (next ∷ sides)) side
