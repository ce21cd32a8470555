-- What a region is: its first key, and its rows in the order of their keys.
use Rattle.std.specs.Prelude.{◌≡◌, ◌≤◌, ◌<◌, ◌-◌, ◌^◌, ℕ, pos, List, length, map, take, drop, replicate, FitsSigned}
use Rattle.std.specs.Int.{w64}
use Rattle.std.specs.List.{All, AllByRecursion}
use Rattle.ub_table.specs.Keys.{IsBefore, AreKeysAscending}
use Rattle.ub_table.specs.declared.row.Key.{Key}
use Rattle.ub_table.specs.declared.row.Row.{Row}
use Rattle.ub_table.specs.declared.row.TheConstants.{MAX_ROW_NUMBER}
use Rattle.ub_table.specs.declared.schema.Schema.{Schema}
use Rattle.ub_zaddr.specs.Address.{address, last_address}

-- a first key, and rows
pub record RegionRows : Type 0 where
  pub first : Key
  pub rows : List Row

-- how many columns are measures
abbrev pub measures_of : Schema → ℕ
measures_of schema = length schema.columns - schema.dims

-- the key of a row of so many dimensions: the address of its coordinates, and its number
abbrev pub key_of : ℕ → Row → Key
key_of dims row = record { z = address (take dims row.dims); number = row.number }

abbrev pub keys_of : ℕ → List Row → List Key
keys_of dims rows = map (key_of dims) rows

-- of four places those that are not used hold this
abbrev pub HasRest : {A : Type 0} → A → ℕ → List A → Type 0
HasRest rest used places = (length places ≡ 4) × (drop used places ≡ replicate (4 - used) rest)

-- a row's number: from 1 to 2^24 - 1
abbrev pub IsNumbered : Row → Type 0
IsNumbered row = (1 ≤ row.number) × (row.number ≤ MAX_ROW_NUMBER)

-- a row of so many dimensions and measures
pub record IsRow (dims measures : ℕ) (row : Row) : Type 0 where
  pub number : IsNumbered row
  pub dims_rest : HasRest 0 dims row.dims
  pub dims_words : All (λ x. x < 2 ^ 32) row.dims
  pub measures_rest : HasRest (pos 0) measures row.measures
  pub measures_words : All (λ x. FitsSigned w64 x) row.measures

-- the address is in the space, and the number is a row's or 0
abbrev pub IsFirst : ℕ → Key → Type 0
IsFirst dims key = (key.z ≤ last_address dims) × (key.number ≤ MAX_ROW_NUMBER)

-- none of the keys is before the first
abbrev pub AreFrom : Key → List Key → Type 0
AreFrom first keys = AllByRecursion (λ key. ¬ (IsBefore key first)) keys

-- what a region of a table with this schema is
pub record IsRegion (schema : Schema) (region : RegionRows) : Type 0 where
  pub few : length region.rows ≤ schema.page_rows
  pub first : IsFirst schema.dims region.first
  pub rows : AllByRecursion (IsRow schema.dims (measures_of schema)) region.rows
  pub ascending : AreKeysAscending (keys_of schema.dims region.rows)
  pub within : AreFrom region.first (keys_of schema.dims region.rows)
