-- What a CSV text holds for a table that there is: its columns are found by their names, and each record after the header is a row.
use Rattle.std.specs.Prelude.{◌≡◌, ◌⊎◌, ◌+◌, ◌-◌, ◌==◌, ◌&&◌, ℕ, Bool, not, nat_le, if◌then◌else◌, List, [], ◌∷◌, ◌++◌, length, map, take, Option, Some, None, option_map, slice_index, slice_index_or}
use Rattle.std.specs.List.{enumerate_from, flat_map, list_all, list_any, position_or_len}
use Rattle.std.specs.Str.{bytes_eq}
use Rattle.ub_load.specs.LoadedTable.{columns_of, records_of, rows_of}
use Rattle.ub_load.specs.Refusals.{field_refusal, first_of}
use Rattle.ub_load.specs.declared.fault.LoadFault.{LoadFault}
use Rattle.ub_load.specs.declared.fault.LoadFault.TheVariants.{NoHeader, BadName, ColumnCount, BadNumber, OutOfRange, Csv, Tree, Memory}
use Rattle.ub_table.specs.Value.{axes_of}
use Rattle.ub_table.specs.declared.axes.Axes.{Axes}
use Rattle.ub_table.specs.declared.row.Row.{Row}
use Rattle.ub_table.specs.declared.row.TheConstants.{MAX_ROW_NUMBER}
use Rattle.ub_table.specs.declared.schema.Schema.{Schema}
use Rattle.ub_tree.specs.declared.fault.TreeFault.TheVariants as tree

-- whether a name of a header (with its place from 0) is that of a column of the table, and of no earlier place
abbrev pub is_named : List (List ℕ) → List (List ℕ) → ℕ × List ℕ → Bool
is_named columns names c = list_any (bytes_eq c.1) columns && not (list_any (bytes_eq c.1) (take c.0 names))

-- a name of a header (with its place from 0) is refused where the table has no such column, or an earlier place names it
abbrev pub named_refusal : List (List ℕ) → List (List ℕ) → ℕ × List ℕ → Option LoadFault
named_refusal columns names c = if is_named columns names c then None else Some (BadName (c.0 + 1))

-- a header is refused where one of the table's columns isn't in it
abbrev pub missing_refusal : List (List ℕ) → List (List ℕ) → Option LoadFault
missing_refusal columns names = if list_all (λ column. list_any (bytes_eq column) names) columns then None else Some ColumnCount

-- what can be wrong with a header of these names, in order: each of them, and that a column of the table is missing
unfoldable pub heading_refusals : List (List ℕ) → List (List ℕ) → List (Option LoadFault)
heading_refusals columns names = map (named_refusal columns names) (enumerate_from 0 names) ++ missing_refusal columns names ∷ []

-- where in a header a column stands: the first place, from 0, that has its name; how many places there are, where none has
abbrev pub place_in : List (List ℕ) → List ℕ → ℕ
place_in names column = position_or_len (bytes_eq column) names

-- where in a header each column of the table stands
abbrev pub places_in : List (List ℕ) → List (List ℕ) → List ℕ
places_in columns names = map (place_in names) columns

-- the fields that stand at these places, in the order of the places
abbrev pub arranged : List ℕ → List (List ℕ) → List (List ℕ)
arranged places fields = map (λ place. slice_index_or fields place []) places

-- a field's refusal, which tells the column of the table, told with the column of the text in which that column stands
abbrev pub told_at : List ℕ → LoadFault → LoadFault
told_at places (BadNumber row column) = BadNumber row (slice_index places (column - 1) + 1)
told_at places (OutOfRange row column) = OutOfRange row (slice_index places (column - 1) + 1)
told_at places fault = fault

-- what can be wrong with what a record (with its number) holds, where the header has so many fields and the table's columns stand at
-- these places of it, in order: another length, and each field, in the order of the table's columns
unfoldable pub placed_refusals : Axes → ℕ → List ℕ → ℕ × List (List ℕ) → List (Option LoadFault)
placed_refusals axes width places r =
    (if length r.1 == width then None else Some Csv)
    ∷ map (λ f. option_map (told_at places) (field_refusal axes r.0 f)) (enumerate_from 0 (arranged places r.1))

-- what can be wrong with a record (with its number from 1) of a text with this header, in order: what it holds, and that no number is
-- left for it, where the first record gets the number that is next
unfoldable pub appended_refusals : Schema → ℕ → List (List ℕ) → ℕ × List (List ℕ) → List (Option LoadFault)
appended_refusals schema next names r =
    placed_refusals (axes_of schema) (length names) (places_in schema.columns names) r
    ++ (if nat_le (next + r.0) (MAX_ROW_NUMBER + 1) then None else Some (Tree tree.Full)) ∷ []

-- all that can be wrong with the records of a text, for a table of this schema whose next row gets this number, in order
unfoldable pub misfits : Schema → ℕ → List (List (List ℕ)) → List (Option LoadFault)
misfits schema next [] = Some NoHeader ∷ []
misfits schema next (header ∷ rest) =
    heading_refusals schema.columns (columns_of header)
    ++ flat_map (appended_refusals schema next (columns_of header)) (enumerate_from 1 rest)

-- the rows of the records after a header of these names, in order; each has the number of its record, from 1, and gets its number in
-- the table where it is put in
abbrev pub appended_rows : Schema → List (List ℕ) → List (List (List ℕ)) → List Row
appended_rows schema names records = rows_of (axes_of schema) (map (arranged (places_in schema.columns names)) records)

-- the text fits a table of this schema whose next row gets this number, with nothing wrong in it: these are its rows
pub record AreRowsOf (text : List ℕ) (schema : Schema) (next : ℕ) (rows : List Row) : Type 0 where
  pub header : List (List ℕ)
  pub rest : List (List (List ℕ))
  pub records : records_of text ≡ header ∷ rest
  pub fine : first_of (misfits schema next (header ∷ rest)) ≡ None
  pub rows_are : rows ≡ appended_rows schema (columns_of header) rest

-- why a text isn't taken: `csv` refused a record, memory was refused, or this is the first thing that is wrong with it
abbrev pub IsRowsFault : List ℕ → Schema → ℕ → LoadFault → Type 0
IsRowsFault text schema next fault =
    (fault ≡ Csv) ⊎ ((fault ≡ Memory) ⊎ (first_of (misfits schema next (records_of text)) ≡ Some fault))
