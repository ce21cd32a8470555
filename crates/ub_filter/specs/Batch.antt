-- The rows of a page at the places of a mask.
use Rattle.std.specs.Prelude.{◌==◌, ℕ, List, length, map}
use Rattle.std.specs.Int.{bit_at}
use Rattle.std.specs.List.{filter, range_with_len, zip}
use Rattle.ub_table.specs.declared.row.Row.{Row}

-- rows, each behind its place, counted from 0
abbrev pub placed : List Row → List (ℕ × Row)
placed rows = zip (range_with_len 0 (length rows)) rows

-- the rows at whose places the mask has a 1, in order
abbrev pub rows_at : ℕ → List Row → List Row
rows_at mask rows = map (λ p. p.1) (filter (λ p. bit_at mask p.0 == 1) (placed rows))
