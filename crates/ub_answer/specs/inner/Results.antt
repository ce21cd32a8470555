-- The cells of an answer, by where they come from.
use Rattle.std.specs.Prelude.{List}
use Rattle.ub_answer.specs.declared.result_set.Source.{Source}
use Rattle.ub_answer.specs.declared.result_set.Source.TheVariants.{Rows, Cells}
use Rattle.ub_query.specs.declared.cell.Cell.{Cell}

-- of rows those that are made of them, else those that are held
abbrev pub cells_of : Source → List (List Cell)
cells_of (Rows rows) = rows
cells_of (Cells cells) = cells
