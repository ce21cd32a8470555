-- What is true of each list of cuts, and of the intervals between them.
use Rattle.std.specs.Prelude.{◌≡◌, ℕ, suc, ◌≤◌, ◌<◌, List, [], ◌∷◌}
use Rattle.ub_table.specs.Value.{greatest}
use Rattle.ub_boxes.specs.declared.interval.Interval.{Interval}

-- the numbers ascend from one above the first, and are coordinates
abbrev pub AreCuts : ℕ → List ℕ → Type 0
AreCuts low [] = low ≤ greatest
AreCuts low (cut ∷ cuts) = (low < cut) × (cut ≤ greatest) × AreCuts cut cuts

-- the intervals follow one another, from a coordinate to the greatest
abbrev pub AreFrom : ℕ → List Interval → Type 0
AreFrom low [] = low ≡ suc greatest
AreFrom low (interval ∷ intervals) =
    (interval.low ≡ low) × (low ≤ interval.high) × (interval.high ≤ greatest)
    × AreFrom (suc interval.high) intervals

-- the intervals of each dimension follow one another, from the least coordinate to the greatest
abbrev pub AreSides : List (List Interval) → Type 0
AreSides [] = Unit {0}
AreSides (side ∷ sides) = AreFrom 0 side × AreSides sides
