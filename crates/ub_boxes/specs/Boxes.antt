-- The boxes of a condition: the cells on which its cover holds, joined along the last dimension.
use Rattle.std.specs.Prelude.{ℕ, ◌+◌, Bool, not, ◌&&◌, ◌==◌, nat_lt, if◌then◌else◌, List, [], ◌∷◌, map, replicate, Option}
use Rattle.std.specs.List.{flat_map}
use Rattle.ub_bigmin.specs.Box.{Corners}
use Rattle.ub_table.specs.Value.{greatest}
use Rattle.ub_boxes.specs.Grid.{grid, number_of_cells}
use Rattle.ub_boxes.specs.Truths.{covers, is_of_dimensions}
use Rattle.ub_boxes.specs.declared.interval.Interval.{Interval}
use Rattle.ub_query.specs.Shape.{Shape}
use Rattle.ub_table.specs.declared.schema.Schema.{Schema}

-- an interval and the runs after it: it is joined to the first of them where the two adjoin
abbrev pub join : Interval → List Interval → List Interval
join interval [] = interval ∷ []
join interval (run ∷ runs) =
    if interval.high + 1 == run.low then record { low = interval.low; high = run.high } ∷ runs
    else interval ∷ run ∷ runs

-- the intervals on whose least coordinate a test holds, in order, those that adjoin joined
abbrev pub runs : (ℕ → Bool) → List Interval → List Interval
runs test [] = []
runs test (interval ∷ intervals) =
    if test interval.low then join interval (runs test intervals) else runs test intervals

-- an interval of one dimension beside a box of the dimensions after it
abbrev pub beside : Interval → Corners → Corners
beside interval box = record { lo = interval.low ∷ box.lo; hi = interval.high ∷ box.hi }

-- the box of no dimensions
abbrev pub nowhere : Corners
nowhere = record { lo = []; hi = [] }

-- the cells on whose least corner a test holds, in lexicographic order, those that adjoin along the last dimension and
-- agree in the others joined: each interval of the first dimension beside what is so made of the others, runs of the last
abbrev pub boxes_on : (List ℕ → Bool) → List (List Interval) → List Corners
boxes_on test [] = []
boxes_on test (side ∷ []) = map (λ run. beside run nowhere) (runs (λ low. test (low ∷ [])) side)
boxes_on test (side ∷ next ∷ sides) =
    flat_map
    (λ interval. map (beside interval) (boxes_on (λ point. test (interval.low ∷ point)) (next ∷ sides)))
    side

-- the whole space of so many dimensions
abbrev pub space : ℕ → Corners
space dims = record { lo = replicate dims 0; hi = replicate dims greatest }

-- the most cells of which boxes are made
abbrev pub most_cells : ℕ
most_cells = 4096

-- a condition with more cells is wide
abbrev pub is_wide : Schema → Option Shape → Bool
is_wide schema filter = nat_lt most_cells (number_of_cells (grid schema filter))

-- the boxes of a condition, or of none: of a wide one the whole space
abbrev pub boxes_of : Schema → Option Shape → List Corners
boxes_of schema filter =
    if is_wide schema filter then space schema.dims ∷ []
    else boxes_on (covers schema filter) (grid schema filter)

-- what is known of the points of a condition
pub record Covering : Type 0 where
  pub boxes : List Corners
  pub exact : Bool
  pub wide : Bool

-- the boxes of a condition; they are exact where it isn't wide and names dimensions only
abbrev pub cover_of : Schema → Option Shape → Covering
cover_of schema filter = record {
  boxes = boxes_of schema filter;
  exact = not (is_wide schema filter) && is_of_dimensions schema filter;
  wide = is_wide schema filter;
}
