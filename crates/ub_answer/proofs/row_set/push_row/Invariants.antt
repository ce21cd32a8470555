-- The cells so far.
use Rattle.std.proofs.Common.{◌≡◌, ◌++◌, map, take}
use Rattle.ub_query.specs.Cells.{row_cell}
use Rattle.ub_answer.proofs.row_set.push_row.Given as goal

abbrev pub invariant-loop-item : goal.invariant-loop-item
invariant-loop-item l = l.cells.items ≡ l.initial.cells.items ++ map (row_cell l.schema l.row) (take l.item-index l.items)
