-- What has been read of a text: the records so far, and the rows of those after the header.
use Rattle.std.specs.Prelude.{◌≡◌, ◌≤◌, ◌+◌, ◌⊎◌, ℕ, true, List, [], ◌∷◌, ◌++◌, length, Option, Some, None}
use Rattle.std.specs.List.{AllByRecursion, enumerate_from, flat_map}
use Rattle.csv.specs.declared.reader.Reader.{Reader}
use Rattle.ub_load.specs.LoadedTable.{IsSchemaOf, columns_of, row_of, rows_of}
use Rattle.ub_load.specs.LoadedTree.{loaded_regions}
use Rattle.ub_load.specs.Refusals.{first_of, header_refusal, record_refusals}
use Rattle.ub_load.specs.declared.fault.LoadFault.{LoadFault}
use Rattle.ub_load.specs.declared.fault.LoadFault.TheVariants.{Csv, Memory, NoHeader}
use Rattle.ub_load.specs.declared.grown.GrownTable.{GrownTable}
use Rattle.ub_load.specs.inner.Records.{GivesAll, GivesNext, HasRead}
use Rattle.ub_table.specs.Region.{IsRow, measures_of}
use Rattle.ub_table.specs.Value.{axes_of}
use Rattle.ub_table.specs.declared.axes.Axes.{Axes}
use Rattle.ub_table.specs.declared.row.Row.{Row}
use Rattle.ub_table.specs.declared.row.TheConstants.{MAX_ROW_NUMBER}
use Rattle.ub_table.specs.declared.schema.Schema.{Schema}

-- the first thing that is wrong with a record (with its row number), for a table of this schema
abbrev pub record_refusal : Schema → ℕ × List (List ℕ) → Option LoadFault
record_refusal schema r = first_of (record_refusals (axes_of schema) (length schema.columns) r)

-- the row of a record (with its row number) of a table of this schema
abbrev pub IsRowOf : Schema → ℕ × List (List ℕ) → Row → Type 0
IsRowOf schema r row = (row ≡ row_of (axes_of schema) r) × IsRow schema.dims (measures_of schema) row

-- rows have the numbers from this one on
abbrev pub AreNumberedFrom : ℕ → List Row → Type 0
AreNumberedFrom number [] = Unit {0}
AreNumberedFrom number (row ∷ rows) = (row.number ≡ number) × AreNumberedFrom (number + 1) rows

-- the first rows of a table of this schema, no more than there are row numbers
pub record AreFirstRows (schema : Schema) (rows : List Row) : Type 0 where
  pub numbers : AreNumberedFrom 1 rows
  pub each : AllByRecursion (IsRow schema.dims (measures_of schema)) rows
  pub few : length rows ≤ MAX_ROW_NUMBER

-- a record can't be read: `csv` refused it, or memory was refused
abbrev pub IsUnread : LoadFault → Type 0
IsUnread fault = (fault ≡ Csv) ⊎ (fault ≡ Memory)

-- a reader's next record was read, is a header with nothing wrong in it, and makes this schema
pub record HasReadHeader {R : Type 0} (rem : R → Option (List ℕ)) (axes : Axes) (page_rows : ℕ) (name : List ℕ) (old new : Reader R) (schema : Schema)
    : Type 0 where
  pub header : List (List ℕ)
  pub read : HasRead rem old true header new
  pub fine : header_refusal axes.dims name (columns_of header) ≡ None
  pub schema_is : IsSchemaOf header axes page_rows name schema

-- why there is none: a record can't be read, or there is no other one, or this is wrong with the next one
abbrev pub IsHeaderFault : {R : Type 0} → (R → Option (List ℕ)) → Axes → List ℕ → Reader R → LoadFault → Type 0
IsHeaderFault rem axes name rdr fault =
    IsUnread fault ⊎ ((GivesAll rem rdr [] × (fault ≡ NoHeader))
    ⊎ ((header : List (List ℕ)) × GivesNext rem rdr (header ∷ []) × (header_refusal axes.dims name (columns_of header) ≡ Some fault)))

-- these are the first records after the header of a table of this schema, with nothing wrong in them
pub record AreAccepted (schema : Schema) (taken : List (List (List ℕ))) : Type 0 where
  pub wide : AllByRecursion (λ r. length r ≡ length schema.columns) taken
  pub accepted : first_of (flat_map (record_refusals (axes_of schema) (length schema.columns)) (enumerate_from 1 taken)) ≡ None

-- these are the rows of all records that a reader still gives, of a table of this schema, whose header it gave last
pub record HasLoadedRecords {R : Type 0} (rem : R → Option (List ℕ)) (rdr : Reader R) (schema : Schema) (rows : List Row) : Type 0 where
  pub taken : List (List (List ℕ))
  pub all : GivesAll rem rdr taken
  pub fine : AreAccepted schema taken
  pub rows_are : rows ≡ rows_of (axes_of schema) taken

-- one of them is refused, with nothing wrong in those before it
pub record IsBadRecord {R : Type 0} (rem : R → Option (List ℕ)) (rdr : Reader R) (schema : Schema) (fault : LoadFault) : Type 0 where
  pub taken : List (List (List ℕ))
  pub bad : List (List ℕ)
  pub next : GivesNext rem rdr (taken ++ bad ∷ [])
  pub fine : AreAccepted schema taken
  pub refused : record_refusal schema (1 + length taken, bad) ≡ Some fault

abbrev pub IsRecordsFault : {R : Type 0} → (R → Option (List ℕ)) → Reader R → Schema → LoadFault → Type 0
IsRecordsFault rem rdr schema fault = IsUnread fault ⊎ IsBadRecord rem rdr schema fault

-- the table of this schema whose rows these are
pub record IsGrownOf (schema : Schema) (rows : List Row) (table : GrownTable) : Type 0 where
  pub schema_is : table.schema ≡ schema
  pub grown_are : table.grown ≡ loaded_regions schema.dims schema.page_rows rows
  pub next_is : table.next ≡ length rows + 1
