-- The rows held as a heap stores them, and which of them is the first.
use Rattle.std.specs.Prelude.{◌≡◌, ◌≢◌, ◌++◌, [], ◌∷◌, ℕ, ℤ, List, Option, Some, None, map, slice_index, Contains}
use Rattle.ub_tetris.specs.Common.{AllByRecursion, back_total, int_cmp, int_cmp_total, IsPermutation, IsTotalOrder, nat_cmp, nat_cmp_total, on_total}
use Rattle.ub_tetris.specs.Common.{Ordering, ordering_then, Row, Schema, SortKey, then_total}
use Rattle.std.specs.Cmp.Lexicographic.{lists_total, slice_cmp}
use Rattle.std.specs.declared.cmp.Ordering.TheVariants.{Less}
use Rattle.ub_tetris.specs.Held.{HeldRow, held_row}
use Rattle.ub_tetris.specs.declared.place.Held.{Held}
use Rattle.ub_tetris.specs.declared.ranked.Ranked.{Ranked}
use Rattle.ub_tetris.specs.inner.Firsts.{first_of}

-- what is held, without the room in memory
abbrev pub seen_row : Held → HeldRow
seen_row h = record { values = h.values.items; row = h.row }

abbrev pub held_of : List Ranked → List HeldRow
held_of items = map (λ r. seen_row r.held.value) items

-- the order of all values, and where these are equal, of row numbers
abbrev pub tie_cmp : List ℤ → ℕ → List ℤ → ℕ → Ordering
tie_cmp values number others other = ordering_then (slice_cmp int_cmp values others) (nat_cmp number other)

-- the same with the first values compared alone before
abbrev pub place_cmp : List ℤ → ℕ → List ℤ → ℕ → Ordering
place_cmp values number others other = ordering_then (int_cmp (first_of values) (first_of others)) (tie_cmp values number others other)

-- the greatest is the first
abbrev pub held_cmp : Ranked → Ranked → Ordering
held_cmp a b = place_cmp b.held.value.values.items b.held.value.row.number a.held.value.values.items a.held.value.row.number

pub held_total : IsTotalOrder held_cmp
held_total =
    back_total (then_total (on_total (λ (r : Ranked). first_of r.held.value.values.items) int_cmp_total)
    (then_total (on_total (λ (r : Ranked). r.held.value.values.items) (lists_total int_cmp_total))
    (on_total (λ (r : Ranked). r.held.value.row.number) nat_cmp_total)))

abbrev pub IsHeldBefore : HeldRow → HeldRow → Type 0
IsHeldBefore a b = place_cmp a.values a.row.number b.values b.row.number ≡ Less

abbrev pub IsFirstAmong : HeldRow → List HeldRow → Type 0
IsFirstAmong first held = AllByRecursion (λ other. ¬ (IsHeldBefore other first)) held

-- the row is the first of those held; none is where none are held
abbrev pub IsFirstOf : List HeldRow → Option Row → Type 0
IsFirstOf held None = held ≡ []
IsFirstOf held (Some row) = (first : HeldRow) × Contains held first × (first.row ≡ row) × IsFirstAmong first held

-- the first was taken out of those held; none was where none are held
abbrev pub TakesFirst : List HeldRow → List HeldRow → Option Row → Type 0
TakesFirst held left None = (held ≡ []) × (left ≡ [])
TakesFirst held left (Some row) = (first : HeldRow) × IsPermutation held (first ∷ left) × (first.row ≡ row) × IsFirstAmong first left

-- the row, if there is one, hasn't this coordinate in the dimension
abbrev pub IsElsewhere : ℕ → ℕ → Option Row → Type 0
IsElsewhere dim value None = Unit {0}
IsElsewhere dim value (Some row) = slice_index row.dims dim ≢ value

-- the first of those held, if there is one, hasn't
abbrev pub IsFirstElsewhere : ℕ → ℕ → List HeldRow → Type 0
IsFirstElsewhere dim value held = (first : Option Row) × IsFirstOf held first × IsElsewhere dim value first

-- one that is the first of those held has
abbrev pub IsFirstAt : ℕ → ℕ → List HeldRow → Type 0
IsFirstAt dim value held = (first : Row) × IsFirstOf held (Some first) × (slice_index first.dims dim ≡ value)

-- the first was taken out of those held where it has this coordinate; else none was
abbrev pub TakesFirstAt : ℕ → ℕ → List HeldRow → List HeldRow → Option Row → Type 0
TakesFirstAt dim value held left None = (left ≡ held) × IsFirstElsewhere dim value held
TakesFirstAt dim value held left (Some row) = IsFirstAt dim value held × TakesFirst held left (Some row)

-- these rows were taken, one after the other, while the first of those held had this coordinate
abbrev pub AreTakenAt : ℕ → ℕ → List HeldRow → List HeldRow → List Row → Type 0
AreTakenAt dim value held left [] = left ≡ held
AreTakenAt dim value held left (row ∷ rows) = (mid : List HeldRow) × TakesFirstAt dim value held mid (Some row) × AreTakenAt dim value mid left rows

-- these are this row and all rows of its coordinate, which were taken out of those held from the first on
pub record TakesValue (dim : ℕ) (first : Row) (held left : List HeldRow) (rows : List Row) : Type 0 where
  pub others : List Row
  pub rows_are : rows ≡ first ∷ others
  pub taken : AreTakenAt dim (slice_index first.dims dim) held left others
  pub whole : IsFirstElsewhere dim (slice_index first.dims dim) left

-- some rows are held by these keys beside those that were
abbrev pub HoldsAlso : Schema → List SortKey → List Row → List HeldRow → List HeldRow → Type 0
HoldsAlso schema keys rows old new = IsPermutation (old ++ map (held_row schema keys) rows) new
