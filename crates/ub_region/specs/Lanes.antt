-- Which values of a column lie between two bounds, as the bits of a number.
use Rattle.std.specs.Prelude.{◌≡◌, ◌<◌, ◌≤◌, ◌↔◌, ℕ, List, [], length, take, slice_index, slice_index_or}
use Rattle.std.specs.Int.{bit_at}

-- bit i is 1 exactly where there is a value at index i, and it lies in lo ..= hi
abbrev pub IsMaskOf : ℕ → ℕ → List ℕ → ℕ → Type 0
IsMaskOf lo hi column mask =
    (i : ℕ) → (bit_at mask i ≡ 1) ↔ ((i < length column) × (lo ≤ slice_index column i) × (slice_index column i ≤ hi))

-- the first values of a column
abbrev pub used : ℕ → List (List ℕ) → ℕ → List ℕ
used len columns d = take len (slice_index_or columns d [])

-- in column d the value at index i is there, and lies between the bounds of the column
abbrev pub IsBetween : ℕ → List (List ℕ) → List ℕ → List ℕ → ℕ → ℕ → Type 0
IsBetween len columns lo hi i d =
    (i < length (used len columns d)) × (slice_index lo d ≤ slice_index (used len columns d) i)
    × (slice_index (used len columns d) i ≤ slice_index hi d)

-- bit i, of 64, is 1 exactly where that is so in each of the first n columns
abbrev pub IsMaskBelow : ℕ → List (List ℕ) → List ℕ → List ℕ → ℕ → ℕ → Type 0
IsMaskBelow len columns lo hi n mask =
    (i : ℕ) → (bit_at mask i ≡ 1) ↔ ((i < 64) × ((d : ℕ) → d < n → IsBetween len columns lo hi i d))
