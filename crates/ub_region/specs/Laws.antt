-- The laws of regions. Each is what the function of its name in `law` ensures, and is proved in proofs/Laws.antt.
use Rattle.std.specs.Prelude.{◌≡◌, ◌≤◌, ◌<◌, ◌+◌, ℕ, suc, List, [], ◌∷◌, ◌++◌, Some, IsTrue, Contains, drop, slice_get}
use Rattle.ub_region.specs.Regions.{AreRegions, AreTableRows, firsts_of, insert, remove, rows_of, without_number}
use Rattle.ub_region.specs.Rows.{has_key}
use Rattle.ub_region.specs.Spans.{span_end}
use Rattle.ub_table.specs.Keys.{IsBefore}
use Rattle.ub_table.specs.Region.{RegionRows, IsRow, key_of, measures_of}
use Rattle.ub_table.specs.declared.row.Key.{Key}
use Rattle.ub_table.specs.declared.row.Row.{Row}
use Rattle.ub_table.specs.declared.schema.Schema.{Schema}
use Rattle.ub_zaddr.specs.Address.{last_address}

-- an address lies in the span of the region at an index: it isn't before that of the region's first key, nor after the span's end
abbrev pub IsInSpanAt : Schema → List RegionRows → ℕ → ℕ → Type 0
IsInSpanAt schema regions index z =
    (region : RegionRows) × (slice_get regions index ≡ Some region) × (region.first.z ≤ z)
    × (z ≤ span_end (last_address schema.dims) (firsts_of (drop (suc index) regions)))

-- of two regions of a table the later one begins with the later key
abbrev pub FirstKeysAscend : Type 0
FirstKeysAscend = (schema : Schema) (next : ℕ) (regions : List RegionRows) (i j : ℕ) (a b : RegionRows)
    → AreRegions schema next regions → i < j → slice_get regions i ≡ Some a → slice_get regions j ≡ Some b
    → IsBefore a.first b.first

-- each address of the space lies in the span of some region
abbrev pub EachAddressHasASpan : Type 0
EachAddressHasASpan = (schema : Schema) (next : ℕ) (regions : List RegionRows) (z : ℕ) → AreRegions schema next regions
    → z ≤ last_address schema.dims → (index : ℕ) × IsInSpanAt schema regions index z

-- each row's address lies in the span of the row's region
abbrev pub RowsLieInTheirSpans : Type 0
RowsLieInTheirSpans = (schema : Schema) (next : ℕ) (regions : List RegionRows) (index : ℕ) (region : RegionRows) (row : Row)
    → AreRegions schema next regions → slice_get regions index ≡ Some region → Contains region.rows row
    → IsInSpanAt schema regions index (key_of schema.dims row).z

-- where a row of the next number is put in, they are regions of a table again
abbrev pub InsertionKeepsRegions : Type 0
InsertionKeepsRegions = (schema : Schema) (next : ℕ) (regions : List RegionRows) (row : Row) → AreRegions schema next regions
    → IsRow schema.dims (measures_of schema) row → row.number ≡ next
    → AreRegions schema (next + 1) (insert schema.dims schema.page_rows row regions)

-- where a row of the next number is put in, the table gains that row as its last
abbrev pub InsertionAddsTheRow : Type 0
InsertionAddsTheRow = (schema : Schema) (next : ℕ) (regions : List RegionRows) (rows : List Row) (row : Row)
    → AreRegions schema next regions → AreTableRows regions rows
    → IsRow schema.dims (measures_of schema) row → row.number ≡ next
    → AreTableRows (insert schema.dims schema.page_rows row regions) (rows ++ row ∷ [])

-- where the row of a key is taken out, they are regions of a table again
abbrev pub RemovalKeepsRegions : Type 0
RemovalKeepsRegions = (schema : Schema) (next : ℕ) (regions : List RegionRows) (key : Key) → AreRegions schema next regions
    → AreRegions schema next (remove schema.dims schema.page_rows key regions)

-- where the row of a key is taken out, the table loses that row alone
abbrev pub RemovalTakesTheRow : Type 0
RemovalTakesTheRow = (schema : Schema) (next : ℕ) (regions : List RegionRows) (rows : List Row) (key : Key)
    → AreRegions schema next regions → AreTableRows regions rows → IsTrue (has_key schema.dims key (rows_of regions))
    → AreTableRows (remove schema.dims schema.page_rows key regions) (without_number key.number rows)
