-- The row that stands for one that isn't there.
use Rattle.std.proofs.Common.{[], ◌∷◌, pos}
use Rattle.ub_table.specs.declared.row.Row.{Row}

abbrev pub blank_row : Row
blank_row = record { number = 0; dims = 0 ∷ 0 ∷ 0 ∷ 0 ∷ []; measures = pos 0 ∷ pos 0 ∷ pos 0 ∷ pos 0 ∷ [] }
