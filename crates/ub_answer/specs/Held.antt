-- How many rows may be taken, how many are held, and what a row becomes.
use Rattle.std.specs.Prelude.{ℕ, ◌≤◌, ◌*◌, max, min, List, map, Option, IfSome}
use Rattle.ub_query.specs.Cells.{row_cell}
use Rattle.ub_query.specs.declared.cell.Cell.{Cell}
use Rattle.ub_query.specs.declared.query.Item.{Item}
use Rattle.ub_table.specs.declared.row.Row.{Row}
use Rattle.ub_table.specs.declared.schema.Schema.{Schema}

-- how many rows may be taken: more than a table has
abbrev pub many : ℕ
many = 4294967296

-- how many rows are held at most where LIMIT n stands: memory grows with the result, and not with the table
abbrev pub most_held : ℕ → ℕ
most_held n = max (min (2 * n) 18446744073709551615) 64

-- there are no more rows than that after a call, where there were no more before
abbrev pub StayFew : Option ℕ → ℕ → ℕ → Type 0
StayFew limit old new = IfSome limit (λ n. old ≤ most_held n → new ≤ most_held n)

-- the lines of some rows: each reduced to its cells
abbrev pub lines : Schema → List Item → List Row → List (List Cell)
lines schema items rows = map (λ row. map (row_cell schema row) items) rows
