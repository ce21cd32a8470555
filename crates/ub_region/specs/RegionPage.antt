-- The pages of a table's regions, format 1.
use Rattle.std.specs.Prelude.{◌≡◌, ◌≢◌, ◌≤◌, ◌+◌, ◌-◌, ◌*◌, ◌++◌, ℕ, pos, List, [], ◌∷◌, Some, length, map, take, replicate, slice_get, slice_index, slice_index_or}
use Rattle.std.specs.Int.{w64, cast_signed, cast_unsigned}
use Rattle.std.specs.List.{AllByRecursion, flat_map, range_with_len}
use Rattle.ub_bigmin.specs.Box.{Corners, IsInside}
use Rattle.ub_bytes.specs.Bytes.{number_bytes, number_at, layout, padded}
use Rattle.ub_table.specs.Keys.{origin, AreKeysAscending}
use Rattle.ub_table.specs.Region.{RegionRows, measures_of, keys_of, IsNumbered, IsFirst, AreFrom, IsRegion}
use Rattle.ub_table.specs.declared.fault.PageFault.{PageFault}
use Rattle.ub_table.specs.declared.fault.PageFault.TheVariants.{WrongKind, BadCount, BadRow, BadOrder, OutOfRegion, BadPadding}
use Rattle.ub_table.specs.declared.row.Key.{Key}
use Rattle.ub_table.specs.declared.row.Row.{Row}
use Rattle.ub_table.specs.declared.schema.Schema.{Schema}

-- a region, in a space of so many dimensions
pub record RegionView : Type 0 where
  pub dims : ℕ
  pub region : RegionRows

-- the one region of a table with no rows: it begins with the least key of all
abbrev pub only_region : RegionRows
only_region = record { first = origin; rows = [] }

abbrev pub empty_region : ℕ → RegionView
empty_region dims = record { dims = dims; region = only_region }

-- 'R', how many dimensions, measures and rows, and the first key
abbrev pub head_fields : ℕ → ℕ → ℕ → Key → List (ℕ × ℕ)
head_fields dims measures count first =
    (1, 0x52) ∷ (1, dims) ∷ (1, measures) ∷ (1, count) ∷ (16, first.z) ∷ (4, first.number) ∷ []

-- a number of each row, each on so many bytes
abbrev pub column : ℕ → (Row → ℕ) → List Row → List ℕ
column width number rows = flat_map (λ row. number_bytes width (number row)) rows

-- a dimension, and a measure in two's complement
abbrev pub dim_of : ℕ → Row → ℕ
dim_of d row = slice_index row.dims d

abbrev pub measure_of : ℕ → Row → ℕ
measure_of m row = cast_unsigned w64 (slice_index_or row.measures m (pos 0))

-- column 0, then column 1, and so on, n of them
abbrev pub columns : ℕ → (ℕ → Row → ℕ) → ℕ → List Row → List ℕ
columns width number n rows = flat_map (λ i. column width (number i) rows) (range_with_len 0 n)

-- the one spelling of a region's page: the head, the rows' numbers, the dimensions and the measures
unfoldable pub region_page : Schema → RegionRows → List ℕ
region_page schema region =
    padded (layout (head_fields schema.dims (measures_of schema) (length region.rows) region.first)
    ++ (column 4 (λ row. row.number) region.rows
    ++ (columns 4 dim_of schema.dims region.rows ++ columns 8 measure_of (measures_of schema) region.rows)))

-- the values of the first places, and of the other places, of four, the rest
abbrev pub places : {A : Type 0} → A → (ℕ → A) → ℕ → List A
places rest value used = map value (range_with_len 0 used) ++ replicate (4 - used) rest

-- the row at index i of so many rows that stand on a page
unfoldable pub row_on : ℕ → ℕ → ℕ → List ℕ → ℕ → Row
row_on dims measures count page i = record {
  number = number_at 4 (24 + 4 * i) page;
  dims = places 0 (λ d. number_at 4 (24 + 4 * count + 4 * (count * d + i)) page) dims;
  measures = places (pos 0) (λ m. cast_signed w64 (number_at 8 (24 + 4 * count + 4 * (count * dims) + 8 * (count * m + i)) page)) measures;
}

-- what the page tells, if it is one of a region
abbrev pub region_on : Schema → List ℕ → RegionRows
region_on schema page = record {
  first = record { z = number_at 16 4 page; number = number_at 4 20 page };
  rows = map (row_on schema.dims (measures_of schema) (number_at 1 3 page) page) (range_with_len 0 (number_at 1 3 page));
}

-- the page begins with 'R'
abbrev pub IsRegionKind : List ℕ → Type 0
IsRegionKind page = number_at 1 0 page ≡ 0x52

-- it tells of the schema's dimensions and measures, and of no more rows than a page holds
abbrev pub HasCounts : Schema → List ℕ → Type 0
HasCounts schema page =
    (number_at 1 1 page ≡ schema.dims) × (number_at 1 2 page ≡ measures_of schema) × (number_at 1 3 page ≤ schema.page_rows)

-- the numbers of its keys and the address of the first are in range
abbrev pub HasRows : Schema → List ℕ → Type 0
HasRows schema page =
    IsFirst schema.dims (region_on schema page).first × AllByRecursion IsNumbered (region_on schema page).rows

abbrev pub HasOrder : Schema → List ℕ → Type 0
HasOrder schema page = AreKeysAscending (keys_of schema.dims (region_on schema page).rows)

-- no row is before the first key
abbrev pub HasFirst : Schema → List ℕ → Type 0
HasFirst schema page = AreFrom (region_on schema page).first (keys_of schema.dims (region_on schema page).rows)

-- the refusal is the first that holds of the page
abbrev pub IsRegionFault : Schema → List ℕ → PageFault → Type 0
IsRegionFault schema page WrongKind = ¬ (IsRegionKind page)
IsRegionFault schema page BadCount = IsRegionKind page × (¬ (HasCounts schema page))
IsRegionFault schema page BadRow = IsRegionKind page × HasCounts schema page × (¬ (HasRows schema page))
IsRegionFault schema page BadOrder =
    IsRegionKind page × HasCounts schema page × HasRows schema page × (¬ (HasOrder schema page))
IsRegionFault schema page OutOfRegion =
    IsRegionKind page × HasCounts schema page × HasRows schema page × HasOrder schema page × (¬ (HasFirst schema page))
IsRegionFault schema page BadPadding =
    IsRegionKind page × HasCounts schema page × HasRows schema page × HasOrder schema page × HasFirst schema page
    × ((region : RegionRows) → IsRegion schema region → page ≢ region_page schema region)
IsRegionFault schema page _ = ⊥

-- row i is there, and lies in the box
abbrev pub IsRowInside : RegionView → Corners → ℕ → Type 0
IsRowInside view zbox i = (row : Row) × (slice_get view.region.rows i ≡ Some row) × IsInside zbox (take view.dims row.dims)
