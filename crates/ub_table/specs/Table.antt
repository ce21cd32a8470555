-- A table: a schema and its rows in ascending order of row number.
use Rattle.std.specs.Prelude.{ℕ, ◌-◌, ℤ, pos, nat_lt, if◌then◌else◌, List, map, slice_index, slice_index_or}
use Rattle.std.specs.List.Sorted.{IsStrictlyIncreasing}
use Rattle.ub_table.specs.Value.{value}
use Rattle.ub_table.specs.declared.row.Row.{Row}
use Rattle.ub_table.specs.declared.schema.Schema.{Schema}

pub record Table : Type 0 where
  pub schema : Schema
  pub rows : List Row

abbrev pub IsInOrder : List Row → Type 0
IsInOrder rows = IsStrictlyIncreasing (map (λ r. r.number) rows)

-- the value of a row in a column: what its coordinate stands for in a dimension, else its measure
abbrev pub column_value : Schema → Row → ℕ → ℤ
column_value schema row column =
    if nat_lt column schema.dims then value schema column (slice_index row.dims column)
    else slice_index_or row.measures (column - schema.dims) (pos 0)
