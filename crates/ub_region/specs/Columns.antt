-- The rows of a region in columns of 64 places: their numbers, dimensions and measures.
use Rattle.std.specs.Prelude.{◌≤◌, ◌+◌, ◌*◌, ◌-◌, ◌++◌, ℕ, ℤ, pos, List, [], ◌∷◌, map, replicate, slice_index_or}
use Rattle.std.specs.List.{flat_map, range_with_len}
use Rattle.ub_bytes.specs.Numbers.{first_numbers, measure_in, word_in}
use Rattle.ub_table.specs.Region.{key_of, measures_of}
use Rattle.ub_table.specs.declared.row.Key.{Key}
use Rattle.ub_table.specs.declared.row.Row.{Row}
use Rattle.ub_table.specs.declared.row.TheConstants.{MAX_ROW_NUMBER}
use Rattle.ub_table.specs.declared.schema.Schema.{Schema}

-- of so many places, the first n hold the values of 0 to n - 1, and the others a blank one
abbrev pub block : {A : Type 0} → ℕ → A → (ℕ → A) → ℕ → List A
block total blank value n = map value (range_with_len 0 n) ++ replicate (total - n) blank

abbrev pub blank_dims : List ℕ
blank_dims = replicate 64 0

abbrev pub blank_measures : List ℤ
blank_measures = replicate 64 (pos 0)

-- what four columns hold at an index
abbrev pub across : {A : Type 0} → A → List (List A) → ℕ → List A
across rest columns i =
    slice_index_or (slice_index_or columns 0 []) i rest ∷ slice_index_or (slice_index_or columns 1 []) i rest
    ∷ slice_index_or (slice_index_or columns 2 []) i rest ∷ slice_index_or (slice_index_or columns 3 []) i rest ∷ []

abbrev pub point_in : List (List ℕ) → ℕ → List ℕ
point_in dims i = across 0 dims i

abbrev pub values_in : List (List ℤ) → ℕ → List ℤ
values_in measures i = across (pos 0) measures i

-- the row at an index
abbrev pub row_in : List ℕ → List (List ℕ) → List (List ℤ) → ℕ → Row
row_in numbers dims measures i = record {
  number = slice_index_or numbers i 0;
  dims = point_in dims i;
  measures = values_in measures i;
}

-- the key of the row at an index
abbrev pub key_in : ℕ → List ℕ → List (List ℕ) → ℕ → Key
key_in dims numbers columns i =
    key_of dims (record { number = slice_index_or numbers i 0; dims = point_in columns i; measures = [] })

-- of so many rows the first dimension, then the second, and so on, and so of their measures
abbrev pub dims_in : List (List ℕ) → ℕ → ℕ → List ℕ
dims_in columns dims count =
    flat_map (λ d. first_numbers 4 (word_in (slice_index_or columns d [])) count) (range_with_len 0 dims)

abbrev pub measures_in : List (List ℤ) → ℕ → ℕ → List ℕ
measures_in columns measures count =
    flat_map (λ m. first_numbers 8 (measure_in (slice_index_or columns m [])) count) (range_with_len 0 measures)

-- a number is one of a row
abbrev pub IsRowNumber : ℕ → Type 0
IsRowNumber number = (1 ≤ number) × (number ≤ MAX_ROW_NUMBER)

-- how many bytes of its page a region with so many rows uses
abbrev pub end_with : Schema → ℕ → ℕ
end_with schema count = 24 + 4 * count + 4 * (count * schema.dims) + 8 * (count * measures_of schema)
