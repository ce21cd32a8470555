-- The rows of one region of a UB-tree (Bayer 1997), in key order.
use Rattle.std.specs.Prelude.{ℕ, ◌+◌, ◌-◌, ◌/◌, nat_lt, Bool, if◌then◌else◌, List, [], ◌∷◌, take, drop, slice_index_or}
use Rattle.std.specs.List.{list_any}
use Rattle.ub_table.specs.Keys.{origin, precedes, is_same}
use Rattle.ub_table.specs.Region.{key_of, keys_of}
use Rattle.ub_table.specs.declared.row.Key.{Key}
use Rattle.ub_table.specs.declared.row.Row.{Row}

-- the row put before the first one whose key is after its own
abbrev pub insert_row : ℕ → Row → List Row → List Row
insert_row dims row [] = row ∷ []
insert_row dims row (other ∷ rows) =
    if precedes (key_of dims row) (key_of dims other) then row ∷ other ∷ rows else other ∷ insert_row dims row rows

-- whether a row has the key
abbrev pub has_key : ℕ → Key → List Row → Bool
has_key dims key rows = list_any (λ row. is_same key (key_of dims row)) rows

-- the rows without the first one of that key
abbrev pub remove_row : ℕ → Key → List Row → List Row
remove_row dims key [] = []
remove_row dims key (row ∷ rows) = if is_same key (key_of dims row) then rows else row ∷ remove_row dims key rows

-- what parts the rows up to one key from those from another on: the address alone, where it is another one
abbrev pub separator : Key → Key → Key
separator left right = if nat_lt left.z right.z then record { z = right.z; number = 0 } else right

-- the rows on either side of a cut, and the first key on the right
pub record Halves : Type 0 where
  pub left : List Row
  pub first : Key
  pub right : List Row

abbrev pub key_at : ℕ → List Row → ℕ → Key
key_at dims rows i = slice_index_or (keys_of dims rows) i origin

-- the rows cut after so many
abbrev pub cut : ℕ → ℕ → List Row → Halves
cut dims n rows = record {
  left = take n rows;
  first = separator (key_at dims rows (n - 1)) (key_at dims rows n);
  right = drop n rows;
}

-- of c + 1 rows, where a page holds c, so many are the left half, which can be the larger
abbrev pub left_half : ℕ → ℕ
left_half c = (c + 2) / 2

-- they are cut in halves
abbrev pub split : ℕ → ℕ → List Row → Halves
split dims c rows = cut dims (left_half c) rows
