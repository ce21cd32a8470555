-- The cells of the rows so far.
use Rattle.std.proofs.Common.{◌≡◌, map, take}
use Rattle.std.specs.List.{flat_map}
use Rattle.ub_query.specs.Cells.{row_cell}
use Rattle.ub_answer.proofs.row_set.cells_of_rows.Given as goal

abbrev pub invariant-loop-row : goal.invariant-loop-row
invariant-loop-row l = l.cells.items ≡ flat_map (λ row. map (row_cell l.schema row) l.items) (take l.row-index l.rows)
