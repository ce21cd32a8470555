-- Worked examples: how regions are read for some queries over the small table of `ub_query`'s examples, worked out by hand. Each is what
-- the function of its name in `example` ensures.
use Rattle.std.specs.Prelude.{◌≡◌, ℕ, true, false, [], ◌∷◌, Option, Some, None, pos}
use Rattle.ub_planning.specs.Plan.{planned_kind}
use Rattle.ub_planning.specs.declared.planned.Kind.TheVariants.{Empty, Scan, Sweep}
use Rattle.ub_query.specs.Examples.{ascending, descending, everything, five, measures}
use Rattle.ub_query.specs.Shape.{Asked, both, compares}
use Rattle.ub_query.specs.declared.condition.Operator.TheVariants.{Greater, Less}
use Rattle.ub_query.specs.declared.query.Item.TheVariants.{Column, Count}

-- SELECT * FROM t ORDER BY y DESC LIMIT 2: a sweep in the second dimension, from its greatest coordinate down
abbrev pub SweepByY : Type 0
SweepByY = planned_kind five.schema (everything (descending 1 ∷ []) (Some 2)) ≡ Sweep 1 true

-- SELECT * FROM t ORDER BY m, x: the first key is no dimension
abbrev pub ScanByMeasure : Type 0
ScanByMeasure = planned_kind five.schema (everything (ascending 2 ∷ ascending 0 ∷ []) None) ≡ Scan

-- SELECT * FROM t LIMIT 0: nothing is read
abbrev pub NothingAsked : Type 0
NothingAsked = planned_kind five.schema (everything [] (Some 0)) ≡ Empty

-- SELECT m FROM t WHERE x > 9 AND x < 3: there is no box
abbrev pub NothingToRead : Type 0
NothingToRead = planned_kind five.schema (measures (Some (both (compares 0 Greater (pos 9)) (compares 0 Less (pos 3))))) ≡ Empty

-- SELECT x, COUNT(*) FROM t GROUP BY x LIMIT 1: a sweep in the dimension of the group
abbrev pub SweepOfGroups : Type 0
SweepOfGroups = planned_kind five.schema
    (record { items = Column 0 ∷ Count ∷ []; filter = None; group = 0 ∷ []; order = []; limit = Some 1 }) ≡ Sweep 0 false
