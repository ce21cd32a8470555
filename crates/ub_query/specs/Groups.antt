-- Which rows are selected, and into which groups they fall (SQL's WHERE and GROUP BY).
use Rattle.std.specs.Prelude.{◌≡◌, ◌≢◌, ◌↔◌, ℕ, ℤ, Bool, true, false, ◌&&◌, List, [], ◌∷◌, map, Option, Some, None}
use Rattle.std.specs.List.{All, AllPairs, Contains, filter}
use Rattle.std.specs.Ordering.{int_eq}
use Rattle.ub_query.specs.Cells.{Group}
use Rattle.ub_query.specs.Shape.{Shape}
use Rattle.ub_query.specs.Truth.{truth}
use Rattle.ub_table.specs.Table.{Table, column_value}
use Rattle.ub_table.specs.declared.row.Row.{Row}
use Rattle.ub_table.specs.declared.schema.Schema.{Schema}

-- whether a row is selected: all are where there is no condition
abbrev pub is_selected : Schema → Option Shape → Row → Bool
is_selected schema None row = true
is_selected schema (Some c) row = truth (column_value schema row) c

-- the selected rows of a table, each as often as it stands there, in order of row number
abbrev pub selected : Table → Option Shape → List Row
selected table condition = filter (is_selected table.schema condition) table.rows

-- the values of a row in some columns, in the order of the columns
abbrev pub values_of : Schema → List ℕ → Row → List ℤ
values_of schema columns row = map (column_value schema row) columns

-- whether two lists have the same numbers
abbrev pub are_same : List ℤ → List ℤ → Bool
are_same [] [] = true
are_same [] (y ∷ ys) = false
are_same (x ∷ xs) [] = false
are_same (x ∷ xs) (y ∷ ys) = int_eq x y && are_same xs ys

-- the rows that have these values in these columns, in order
abbrev pub rows_with : Schema → List ℕ → List Row → List ℤ → List Row
rows_with schema columns rows values = filter (λ row. are_same (values_of schema columns row) values) rows

-- groups by some columns: no two have the same values, a list of values is a group's exactly where some row has it, and a
-- group's rows are the rows with its values
pub record IsGrouping (schema : Schema) (columns : List ℕ) (rows : List Row) (groups : List Group) : Type 0 where
  pub apart : AllPairs (λ a b. a.values ≢ b.values) groups
  pub values : (values : List ℤ) → Contains (map (λ g. g.values) groups) values ↔ Contains (map (values_of schema columns) rows) values
  pub members : All (λ g. g.rows ≡ rows_with schema columns rows g.values) groups

-- the groups of the selected rows; without GROUP BY that is one group of all of them, also of none
abbrev pub AreGroups : Schema → List ℕ → List Row → List Group → Type 0
AreGroups schema [] rows groups = groups ≡ record { values = []; rows = rows } ∷ []
AreGroups schema (column ∷ columns) rows groups = IsGrouping schema (column ∷ columns) rows groups
