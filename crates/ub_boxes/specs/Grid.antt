-- The intervals between the cuts of each dimension, and the cells: one interval of each dimension.
use Rattle.std.specs.Prelude.{ℕ, zero, suc, ◌-◌, ◌*◌, List, [], ◌∷◌, ◌++◌, length, Option}
use Rattle.ub_boxes.specs.Cuts.{cuts}
use Rattle.ub_boxes.specs.declared.interval.Interval.{Interval}
use Rattle.ub_query.specs.Shape.{Shape}
use Rattle.ub_table.specs.Value.{greatest}
use Rattle.ub_table.specs.declared.schema.Schema.{Schema}

-- the intervals from a coordinate on: each ends before the next cut, the last at the greatest coordinate
abbrev pub intervals : ℕ → List ℕ → List Interval
intervals low [] = record { low = low; high = greatest } ∷ []
intervals low (cut ∷ cuts) = record { low = low; high = cut - 1 } ∷ intervals cut cuts

-- the intervals of a dimension
abbrev pub side : Schema → Option Shape → ℕ → List Interval
side schema filter dim = intervals 0 (cuts schema filter dim)

-- the intervals of each of the first dimensions
abbrev pub sides : Schema → Option Shape → ℕ → List (List Interval)
sides schema filter zero = []
sides schema filter (suc dim) = sides schema filter dim ++ side schema filter dim ∷ []

-- the intervals of each dimension
abbrev pub grid : Schema → Option Shape → List (List Interval)
grid schema filter = sides schema filter schema.dims

-- how many cells there are, whatever the condition says of them
abbrev pub number_of_cells : List (List Interval) → ℕ
number_of_cells [] = 1
number_of_cells (side ∷ sides) = length side * number_of_cells sides
