-- What the parts of the reader of rows hand each other.
use Rattle.std.specs.Prelude.{◌≤◌, ◌<◌, ◌+◌, ℕ, List, [], ◌∷◌, All, length}
use Rattle.csv.specs.declared.reader.Reader.{Reader}
use Rattle.ub_load.specs.Appending.{AreRowsOf, IsRowsFault}
use Rattle.ub_load.specs.declared.fault.LoadFault.{LoadFault}
use Rattle.ub_load.specs.declared.fault.LoadFault.TheVariants.{BadNumber, OutOfRange}
use Rattle.ub_load.specs.inner.Records.{IsAt, Source, bytes_of}
use Rattle.ub_table.specs.declared.axes.Axes.{Axes}
use Rattle.ub_table.specs.declared.row.Row.{Row}
use Rattle.ub_table.specs.declared.schema.Schema.{Schema}

-- a refusal that tells a column, of so many
abbrev pub IsOfColumns : ℕ → LoadFault → Type 0
IsOfColumns width (BadNumber row column) = (1 ≤ column) × (column ≤ width)
IsOfColumns width (OutOfRange row column) = (1 ≤ column) × (column ≤ width)
IsOfColumns width _ = Unit {0}

-- the columns of a table with these dimensions stand at these places of a header of so many fields
pub record ArePlaces (axes : Axes) (fields : ℕ) (places : List ℕ) : Type 0 where
  pub few_dims : axes.dims ≤ 4
  pub covers_dims : axes.dims ≤ length places
  pub few_columns : length places ≤ axes.dims + 4
  pub width : fields ≤ 8
  pub inside : All (λ place. place < fields) places

-- a reader at the start of any text gave this record, its first
abbrev pub HasReadFirst : Reader Source → List (List ℕ) → Reader Source → Type 0
HasReadFirst old header new = (text : List ℕ) → IsAt bytes_of text [] old → IsAt bytes_of text (header ∷ []) new

-- why any text isn't taken of which a reader has given these records, for a table of this schema whose next row gets this number
abbrev pub IsRefusedFrom : Reader Source → List (List (List ℕ)) → Schema → ℕ → LoadFault → Type 0
IsRefusedFrom rdr taken schema next fault = (text : List ℕ) → IsAt bytes_of text taken rdr → IsRowsFault text schema next fault

-- any text of which a reader has given this header holds these rows
abbrev pub HasRowsFrom : Reader Source → List (List ℕ) → Schema → ℕ → List Row → Type 0
HasRowsFrom rdr header schema next rows = (text : List ℕ) → IsAt bytes_of text (header ∷ []) rdr → AreRowsOf text schema next rows
