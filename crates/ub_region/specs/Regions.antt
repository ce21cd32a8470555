-- The regions of a UB-tree (Bayer 1997): disjoint, in the order of keys, each on one page.
use Rattle.std.specs.Prelude.{◌≡◌, ◌≢◌, ◌<◌, ◌↔◌, ℕ, zero, suc, ◌+◌, ◌/◌, nat_lt, nat_le, Bool, false, not, ◌==◌, if◌then◌else◌, List, [], ◌∷◌, ◌++◌, Some, length, map, take, drop, slice_get}
use Rattle.std.specs.List.{AllByRecursion, Contains, IsDistinct, enumerate_from, filter, flat_map}
use Rattle.std.specs.Bool.{nat_eq}
use Rattle.ub_table.specs.Keys.{IsBefore, AreKeysAscending, origin, is_before_next}
use Rattle.ub_table.specs.Region.{RegionRows, IsRegion, key_of, keys_of}
use Rattle.ub_table.specs.Table.{IsInOrder}
use Rattle.ub_table.specs.declared.row.Key.{Key}
use Rattle.ub_table.specs.declared.row.Row.{Row}
use Rattle.ub_table.specs.declared.schema.Schema.{Schema}
use Rattle.ub_region.specs.Rows.{Halves, insert_row, has_key, remove_row, split}

abbrev pub firsts_of : List RegionRows → List Key
firsts_of regions = map (λ region. region.first) regions

-- the rows of all regions, one region after the other
abbrev pub rows_of : List RegionRows → List Row
rows_of regions = flat_map (λ region. region.rows) regions

-- each row's key is before the first key of the next region
abbrev pub AreApart : ℕ → List RegionRows → Type 0
AreApart dims [] = Unit {0}
AreApart dims (a ∷ []) = Unit {0}
AreApart dims (a ∷ b ∷ regions) = AllByRecursion (λ key. IsBefore key b.first) (keys_of dims a.rows) × AreApart dims (b ∷ regions)

-- the regions of a table whose next row has this number
pub record AreRegions (schema : Schema) (next : ℕ) (regions : List RegionRows) : Type 0 where
  pub begins : slice_get (firsts_of regions) 0 ≡ Some origin
  pub ascending : AreKeysAscending (firsts_of regions)
  pub each : AllByRecursion (IsRegion schema) regions
  pub apart : AreApart schema.dims regions
  pub distinct : IsDistinct nat_eq (map (λ row. row.number) (rows_of regions))
  pub numbered : AllByRecursion (λ row. row.number < next) (rows_of regions)

-- a row with this number in the place of its own
abbrev pub numbered : ℕ → Row → Row
numbered n row = record row { number = n }

-- these rows with the numbers from this one on
abbrev pub numbered_from : ℕ → List Row → List Row
numbered_from n rows = map (λ row. numbered row.0 row.1) (enumerate_from n rows)

-- no row of regions has this number
abbrev pub IsFree : ℕ → List RegionRows → Type 0
IsFree number regions = AllByRecursion (λ row. row.number ≢ number) (rows_of regions)

-- the table's rows: those of the regions, in ascending order of number
pub record AreTableRows (regions : List RegionRows) (rows : List Row) : Type 0 where
  pub ascending : IsInOrder rows
  pub same : (row : Row) → Contains rows row ↔ Contains (rows_of regions) row

-- a table's rows without the one of a number
abbrev pub without_number : ℕ → List Row → List Row
without_number number rows = filter (λ row. not (row.number == number)) rows

-- the index of the region that holds a key, of regions with these first keys: the last one that does not begin after it
abbrev pub index_holding : Key → List Key → ℕ
index_holding key [] = 0
index_holding key (first ∷ firsts) = if is_before_next key firsts then 0 else suc (index_holding key firsts)

-- the regions, with a change made to those from an index on
abbrev pub change_from : ℕ → (List RegionRows → List RegionRows) → List RegionRows → List RegionRows
change_from index change regions = take index regions ++ change (drop index regions)

-- a region of a row more than the c that a page holds becomes two
abbrev pub two_regions : Key → Halves → List RegionRows
two_regions first halves = record { first = first; rows = halves.left } ∷ record { first = halves.first; rows = halves.right } ∷ []

abbrev pub split_region : ℕ → ℕ → RegionRows → List RegionRows
split_region dims c region =
    if nat_le (length region.rows) c then region ∷ [] else two_regions region.first (split dims c region.rows)

-- the row put into the first region
abbrev pub insert_first : ℕ → ℕ → Row → List RegionRows → List RegionRows
insert_first dims c row [] = []
insert_first dims c row (region ∷ regions) =
    split_region dims c (record { first = region.first; rows = insert_row dims row region.rows }) ++ regions

-- insertion, where a page holds c rows: the row is put into the region that holds its key
abbrev pub insert : ℕ → ℕ → Row → List RegionRows → List RegionRows
insert dims c row regions = change_from (index_holding (key_of dims row) (firsts_of regions)) (insert_first dims c row) regions

-- rows put in one after the other, where a page holds c
abbrev pub insert_all : ℕ → ℕ → List Row → List RegionRows → List RegionRows
insert_all dims c [] regions = regions
insert_all dims c (row ∷ rows) regions = insert_all dims c rows (insert dims c row regions)

-- the row of the key taken from the first region
abbrev pub remove_first : ℕ → Key → List RegionRows → List RegionRows
remove_first dims key [] = []
remove_first dims key (region ∷ regions) = record { first = region.first; rows = remove_row dims key region.rows } ∷ regions

-- whether the first region has fewer rows than half a page
abbrev pub is_small : ℕ → List RegionRows → Bool
is_small c [] = false
is_small c (region ∷ regions) = nat_lt (length region.rows) (c / 2)

-- whether the rows of the first two regions fit on one page
abbrev pub fits_next : ℕ → List RegionRows → Bool
fits_next c [] = false
fits_next c (a ∷ []) = false
fits_next c (a ∷ b ∷ regions) = nat_le (length a.rows + length b.rows) c

-- the first two regions joined
abbrev pub join_first : List RegionRows → List RegionRows
join_first [] = []
join_first (a ∷ []) = a ∷ []
join_first (a ∷ b ∷ regions) = record { first = a.first; rows = a.rows ++ b.rows } ∷ regions

-- the region at an index joined with the one before it, where there is one and the rows fit on one page
abbrev pub join_before : ℕ → ℕ → List RegionRows → List RegionRows
join_before c zero regions = regions
join_before c (suc index) regions = if fits_next c (drop index regions) then change_from index join_first regions else regions

-- a region with few rows is joined with the one after it, or else with the one before it, where the rows fit on one page
abbrev pub settle : ℕ → ℕ → List RegionRows → List RegionRows
settle c index regions =
    if is_small c (drop index regions)
    then (if fits_next c (drop index regions) then change_from index join_first regions else join_before c index regions)
    else regions

-- removal of the row of a key: it is taken from the region that holds the key, which may then have too few rows
abbrev pub remove_at : ℕ → ℕ → Key → ℕ → List RegionRows → List RegionRows
remove_at dims c key index regions = settle c index (change_from index (remove_first dims key) regions)

abbrev pub remove : ℕ → ℕ → Key → List RegionRows → List RegionRows
remove dims c key regions =
    if has_key dims key (rows_of regions) then remove_at dims c key (index_holding key (firsts_of regions)) regions else regions
