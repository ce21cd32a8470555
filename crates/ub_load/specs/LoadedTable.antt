-- The table that a CSV text holds: the first record is the header, and record k of the rest is row k.
use Rattle.std.specs.Prelude.{◌≡◌, ℕ, ◌-◌, ℤ, pos, List, ◌∷◌, ◌++◌, length, map, take, drop, replicate, None}
use Rattle.std.specs.List.{enumerate_from}
use Rattle.std.specs.Option.{unwrap_or}
use Rattle.csv.specs.Reading.{default_config, strip_bom, records}
use Rattle.ub_load.specs.Field.{trimmed, number_of}
use Rattle.ub_load.specs.Refusals.{first_refusal}
use Rattle.ub_table.specs.Value.{axes_of, coordinate_at}
use Rattle.ub_table.specs.declared.axes.Axes.{Axes}
use Rattle.ub_table.specs.declared.row.Row.{Row}
use Rattle.ub_table.specs.declared.schema.Schema.{Schema}

-- so many dimensions, of which these are signed
abbrev pub axes_with : ℕ → ℕ → Axes
axes_with dims signed = record { dims = dims; signed = signed }

-- the records of a text, each a list of fields, each a list of bytes, as `csv` reads them with its defaults; a byte
-- order mark at the front is dropped
abbrev pub records_of : List ℕ → List (List (List ℕ))
records_of text = records default_config (strip_bom text)

-- the coordinate that stands for the number of a field (with its place from 0); 0 where there is none, of a field that is refused
abbrev pub coordinate_of : Axes → ℕ × List ℕ → ℕ
coordinate_of axes f = unwrap_or (coordinate_at axes f.0 (number_of (trimmed f.1))) 0

-- the coordinates of a record, four with the unused ones 0
abbrev pub coordinates_of : Axes → List (List ℕ) → List ℕ
coordinates_of axes fields =
    map (coordinate_of axes) (enumerate_from 0 (take axes.dims fields)) ++ replicate (4 - length (take axes.dims fields)) 0

-- the measures of a record, four with the unused ones 0
abbrev pub measures_of : ℕ → List (List ℕ) → List ℤ
measures_of dims fields =
    map (λ f. number_of (trimmed f)) (drop dims fields) ++ replicate (4 - length (drop dims fields)) (pos 0)

-- the row of a record with its number
unfoldable pub row_of : Axes → ℕ × List (List ℕ) → Row
row_of axes r = record { number = r.0; dims = coordinates_of axes r.1; measures = measures_of axes.dims r.1 }

-- the rows of the records after the header, numbered from 1
unfoldable pub rows_of : Axes → List (List (List ℕ)) → List Row
rows_of axes records = map (row_of axes) (enumerate_from 1 records)

-- the names of a header's columns
abbrev pub columns_of : List (List ℕ) → List (List ℕ)
columns_of header = map trimmed header

-- the schema of a table of this name with this header
abbrev pub IsSchemaOf : List (List ℕ) → Axes → ℕ → List ℕ → Schema → Type 0
IsSchemaOf header axes page_rows name s =
    (s.name ≡ name) × (s.columns ≡ columns_of header) × (axes_of s ≡ axes) × (s.page_rows ≡ page_rows)

-- the text is that of a table with this schema and these rows, with nothing wrong in it
pub record IsLoaded (text : List ℕ) (axes : Axes) (page_rows : ℕ) (name : List ℕ) (schema : Schema) (rows : List Row) : Type 0 where
  pub header : List (List ℕ)
  pub rest : List (List (List ℕ))
  pub records : records_of text ≡ header ∷ rest
  pub accepted : first_refusal axes name (header ∷ rest) ≡ None
  pub name_is : schema.name ≡ name
  pub columns_are : schema.columns ≡ columns_of header
  pub axes_are : axes_of schema ≡ axes
  pub page_rows_are : schema.page_rows ≡ page_rows
  pub rows_are : rows ≡ rows_of axes rest
