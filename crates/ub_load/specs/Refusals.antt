-- What can be wrong with the records of a CSV text, in the order in which it is told.
use Rattle.std.specs.Prelude.{◌≡◌, ℕ, ℤ, Bool, true, ◌+◌, ◌==◌, ◌&&◌, ◌||◌, not, nat_lt, nat_le, if◌then◌else◌, List, [], ◌∷◌, ◌++◌, length, map, take, Option, Some, None, slice_get}
use Rattle.std.specs.List.{filter_map, flat_map, enumerate_from, list_any}
use Rattle.std.specs.Str.{bytes_eq}
use Rattle.ub_load.specs.Field.{trimmed, is_number, number_of}
use Rattle.ub_load.specs.declared.fault.LoadFault.{LoadFault}
use Rattle.ub_load.specs.declared.fault.LoadFault.TheVariants.{NoHeader, BadName, ColumnCount, BadNumber, OutOfRange, Csv, Tree, Memory}
use Rattle.ub_tree.specs.declared.fault.TreeFault.{TreeFault}
use Rattle.ub_tree.specs.declared.fault.TreeFault.TheVariants as tree
use Rattle.csv.specs.declared.error.ErrorKind.{ErrorKind}
use Rattle.csv.specs.declared.error.ErrorKind.TheVariants as kind
use Rattle.ub_table.specs.Name.{is_name}
use Rattle.ub_table.specs.Value.{fits_at}
use Rattle.ub_table.specs.declared.axes.Axes.{Axes}
use Rattle.ub_table.specs.declared.row.TheConstants.{MAX_ROW_NUMBER}

-- whether a text is a name that none of these is
abbrev pub is_new_name : List (List ℕ) → List ℕ → Bool
is_new_name earlier text = is_name text && not (list_any (bytes_eq text) earlier)

-- a column's name (with its place from 0) is refused where it is no name or an earlier column has it
abbrev pub name_refusal : List (List ℕ) → ℕ × List ℕ → Option LoadFault
name_refusal names c = if is_new_name (take c.0 names) c.1 then None else Some (BadName (c.0 + 1))

-- what can be wrong with the header, in order: how many columns it has, the table's name, each column's name
unfoldable pub header_refusals : ℕ → List ℕ → List (List ℕ) → List (Option LoadFault)
header_refusals dims name names =
    (if nat_lt (length names) dims || nat_lt (dims + 4) (length names) then Some ColumnCount else None)
    ∷ (if is_name name then None else Some (BadName 0))
    ∷ map (name_refusal names) (enumerate_from 0 names)

-- a field (with its place from 0) of a row is refused where it is no number, or one that its column can't hold
abbrev pub field_refusal : Axes → ℕ → ℕ × List ℕ → Option LoadFault
field_refusal axes row f =
    if not (is_number (trimmed f.1)) then Some (BadNumber row (f.0 + 1))
    else (if fits_at axes f.0 (number_of (trimmed f.1)) then None else Some (OutOfRange row (f.0 + 1)))

-- a field (with its place from 0) of a row that isn't refused, and the value that it holds
abbrev pub HoldsValue : Axes → ℕ → ℕ × List ℕ → ℤ → Type 0
HoldsValue axes row f v =
    (field_refusal axes row f ≡ None) × (v ≡ number_of (trimmed f.1)) × (fits_at axes f.0 v ≡ true)

-- what can be wrong with what a record (with its row number) holds, in order: its length, each field
unfoldable pub content_refusals : Axes → ℕ → ℕ × List (List ℕ) → List (Option LoadFault)
content_refusals axes width r =
    (if length r.1 == width then None else Some Csv) ∷ map (field_refusal axes r.0) (enumerate_from 0 r.1)

-- what can be wrong with a record, in order: what it holds, and that no row has such a number
unfoldable pub record_refusals : Axes → ℕ → ℕ × List (List ℕ) → List (Option LoadFault)
record_refusals axes width r =
    content_refusals axes width r ++ (if nat_le r.0 MAX_ROW_NUMBER then None else Some (Tree tree.Full)) ∷ []

-- all that can be wrong with the records of a text, in order
unfoldable pub refusals : Axes → List ℕ → List (List (List ℕ)) → List (Option LoadFault)
refusals axes name [] = Some NoHeader ∷ []
refusals axes name (header ∷ rows) =
    header_refusals axes.dims name (map trimmed header)
    ++ flat_map (record_refusals axes (length header)) (enumerate_from 1 rows)

-- the first thing that is wrong, if any is
abbrev pub first_of : List (Option LoadFault) → Option LoadFault
first_of faults = slice_get (filter_map (λ f. f) faults) 0

-- the first of a header's columns' names that is refused
abbrev pub names_refusal : List (List ℕ) → Option LoadFault
names_refusal names = first_of (map (name_refusal names) (enumerate_from 0 names))

-- the first thing that is wrong with a header of these columns
abbrev pub header_refusal : ℕ → List ℕ → List (List ℕ) → Option LoadFault
header_refusal dims name names = first_of (header_refusals dims name names)

-- the first thing that is wrong with what a record holds
abbrev pub content_refusal : Axes → ℕ → ℕ × List (List ℕ) → Option LoadFault
content_refusal axes width r = first_of (content_refusals axes width r)

-- the first field of a row that is refused
abbrev pub fields_refusal : Axes → ℕ → List (List ℕ) → Option LoadFault
fields_refusal axes row fields = first_of (map (field_refusal axes row) (enumerate_from 0 fields))

-- the first thing that is wrong with a text's records
abbrev pub first_refusal : Axes → List ℕ → List (List (List ℕ)) → Option LoadFault
first_refusal axes name records = first_of (refusals axes name records)

-- what a refusal of `csv` is to the loader
abbrev pub fault_of : ErrorKind → LoadFault
fault_of kind.OutOfMemory = Memory
fault_of (kind.Io e) = Csv
fault_of (kind.UnequalLengths pos expected len) = Csv
fault_of (kind.Utf8 pos why) = Csv
fault_of (kind.Serialize why) = Csv
fault_of (kind.Deserialize pos why) = Csv

-- what a refusal of the tree is to the loader
abbrev pub fault_of_tree : TreeFault → LoadFault
fault_of_tree tree.Memory = Memory
fault_of_tree fault = Tree fault
