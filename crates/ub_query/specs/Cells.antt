-- What stands in a result (SQL's select list): a row's value in a column, or what is taken of the rows of a group.
use Rattle.std.specs.Prelude.{ℕ, ℤ, pos, ◌+ℤ◌, if◌then◌else◌, ◌==◌, ◌++◌, List, [], ◌∷◌, length, map, codes, slice_index_or}
use Rattle.std.specs.Int.{int_max, int_min}
use Rattle.std.specs.List.{fold}
use Rattle.ub_query.specs.declared.cell.Cell.{Cell}
use Rattle.ub_query.specs.declared.cell.Cell.TheVariants.{Number, Null}
use Rattle.ub_query.specs.declared.query.Aggregate.{Aggregate as Taken}
use Rattle.ub_query.specs.declared.query.Aggregate.TheVariants.{Sum, Min, Max}
use Rattle.ub_query.specs.declared.query.Item.{Item}
use Rattle.ub_query.specs.declared.query.Item.TheVariants.{Column, Count, Aggregate}
use Rattle.ub_table.specs.Table.{column_value}
use Rattle.ub_table.specs.declared.row.Row.{Row}
use Rattle.ub_table.specs.declared.schema.Schema.{Schema}

-- some selected rows that are one entry of a group query, and the values that they have in its group columns, in order
pub record Group : Type 0 where
  pub values : List ℤ
  pub rows : List Row

-- the exact sum of some numbers
abbrev pub total : List ℤ → ℤ
total [] = pos 0
total (x ∷ xs) = x +ℤ total xs

-- SUM: the exact sum, and NULL over no numbers
abbrev pub sum_of : List ℤ → Cell
sum_of [] = Null
sum_of (x ∷ xs) = Number (total (x ∷ xs))

-- MIN: the least of some numbers (`Laws`), and NULL over none
abbrev pub least_of : List ℤ → Cell
least_of [] = Null
least_of (x ∷ xs) = Number (fold int_min x xs)

-- MAX: the greatest of some numbers (`Laws`), and NULL over none
abbrev pub greatest_of : List ℤ → Cell
greatest_of [] = Null
greatest_of (x ∷ xs) = Number (fold int_max x xs)

abbrev pub taken_of : Taken → List ℤ → Cell
taken_of Sum xs = sum_of xs
taken_of Min xs = least_of xs
taken_of Max xs = greatest_of xs

-- the value among those of a group's columns that stands for this column
abbrev pub value_among : List ℕ → List ℤ → ℕ → Cell
value_among [] values column = Null
value_among (c ∷ columns) [] column = Null
value_among (c ∷ columns) (v ∷ values) column = if c == column then Number v else value_among columns values column

-- an item of a row; aggregates are items of groups alone
abbrev pub row_cell : Schema → Row → Item → Cell
row_cell schema row (Column column) = Number (column_value schema row column)
row_cell schema row Count = Null
row_cell schema row (Aggregate taken column) = Null

-- an item of a group of rows: the value by which is grouped, the number of its rows, or what is taken of a column over them
abbrev pub group_cell : Schema → List ℕ → Group → Item → Cell
group_cell schema columns group (Column column) = value_among columns group.values column
group_cell schema columns group Count = Number (pos (length group.rows))
group_cell schema columns group (Aggregate taken column) = taken_of taken (map (λ row. column_value schema row column) group.rows)

-- the keyword of what is taken
abbrev pub keyword_of : Taken → List ℕ
keyword_of Sum = codes "SUM"
keyword_of Min = codes "MIN"
keyword_of Max = codes "MAX"

abbrev pub name_of : Schema → ℕ → List ℕ
name_of schema column = slice_index_or schema.columns column []

-- the title of an item: the column's name, `COUNT(*)`, or the keyword and the column's name in parentheses
abbrev pub title : Schema → Item → List ℕ
title schema (Column column) = name_of schema column
title schema Count = codes "COUNT(*)"
title schema (Aggregate taken column) = keyword_of taken ++ codes "(" ++ name_of schema column ++ codes ")"
