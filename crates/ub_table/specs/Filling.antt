-- A row of coordinates and measures.
use Rattle.std.specs.Prelude.{◌-◌, ◌++◌, ℕ, ℤ, pos, List, length, replicate}
use Rattle.ub_table.specs.declared.row.Row.{Row}

-- a row of this number with these coordinates and measures
abbrev pub row_of : ℕ → List ℕ → List ℤ → Row
row_of number dims measures =
    record { number = number; dims = dims ++ replicate (4 - length dims) 0; measures = measures ++ replicate (4 - length measures) (pos 0) }
