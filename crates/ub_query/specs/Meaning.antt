-- The meaning of a query on a table (SQL's SELECT): which rows of cells its result has, in order.
use Rattle.std.specs.Prelude.{◌≡◌, ℕ, List, map, take, Option, Some, None, ◌⊎◌}
use Rattle.ub_query.specs.Cells.{Group, row_cell, group_cell, title}
use Rattle.ub_query.specs.Groups.{selected, AreGroups}
use Rattle.ub_query.specs.Order.{IsArrangement, IsRowBefore, IsGroupBefore}
use Rattle.ub_query.specs.Posed.{IsGroupQuery}
use Rattle.ub_query.specs.Shape.{Asked}
use Rattle.ub_query.specs.declared.cell.Cell.{Cell}
use Rattle.ub_table.specs.Table.{Table}
use Rattle.ub_table.specs.declared.row.Row.{Row}
use Rattle.ub_table.specs.declared.schema.Schema.{Schema}

-- the titles of a result
abbrev pub titles : Schema → Asked → List (List ℕ)
titles schema q = map (title schema) q.items

-- the first n where LIMIT n stands, else all
abbrev pub limited : {E : Type 0} → Option ℕ → List E → List E
limited None entries = entries
limited (Some n) entries = take n entries

-- the selected rows, arranged, limited, and each reduced to its cells
pub record IsRowMeaning (table : Table) (q : Asked) (rows : List (List Cell)) : Type 0 where
  pub arranged : List Row
  pub ordered : IsArrangement (IsRowBefore table.schema q.order) (selected table q.filter) arranged
  pub cells : rows ≡ map (λ row. map (row_cell table.schema row) q.items) (limited q.limit arranged)

-- the groups of the selected rows, arranged, limited, and each reduced to its cells
pub record IsGroupMeaning (table : Table) (q : Asked) (rows : List (List Cell)) : Type 0 where
  pub groups : List Group
  pub arranged : List Group
  pub grouped : AreGroups table.schema q.group (selected table q.filter) groups
  pub ordered : IsArrangement (IsGroupBefore table.schema q.group q.order) groups arranged
  pub cells : rows ≡ map (λ group. map (group_cell table.schema q.group group) q.items) (limited q.limit arranged)

-- what a query means on a table: a group query gives groups, any other gives rows
abbrev pub IsMeaning : Table → Asked → List (List Cell) → Type 0
IsMeaning table q rows =
    (IsGroupQuery q × IsGroupMeaning table q rows) ⊎ ((¬ IsGroupQuery q) × IsRowMeaning table q rows)
