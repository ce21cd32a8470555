-- The laws of the boxes of a condition. Each is what the function of its name in `law` ensures, and is proved in
-- proofs/Laws.antt.
use Rattle.std.specs.Prelude.{◌≡◌, ◌≢◌, ◌↔◌, ℕ, ◌+◌, ◌-◌, ◌<◌, ◌⊎◌, ℤ, pos, ◌-ℤ◌, List, [], ◌∷◌, length, take, slice_index, true, false, IsTrue, nat_lt, Option, Some, AllPairs, Contains}
use Rattle.std.specs.List.Sorted.{IsStrictlyIncreasing}
use Rattle.ub_bigmin.specs.Box.{Corners, IsInside}
use Rattle.ub_boxes.specs.Boxes.{boxes_of, cover_of, is_wide}
use Rattle.ub_boxes.specs.Cuts.{cuts, cut_of, turns, turns_of}
use Rattle.ub_boxes.specs.Grid.{grid, number_of_cells}
use Rattle.ub_boxes.specs.Points.{total}
use Rattle.ub_boxes.specs.Truths.{covers, can_be}
use Rattle.ub_query.specs.Groups.{is_selected}
use Rattle.ub_query.specs.Shape.{Shape, both, compares, between}
use Rattle.ub_query.specs.Truth.{holds}
use Rattle.ub_query.specs.declared.condition.Operator.{Operator}
use Rattle.ub_query.specs.declared.condition.Operator.TheVariants.{AtMost, AtLeast}
use Rattle.ub_table.specs.declared.row.Row.{Row}
use Rattle.ub_table.specs.declared.schema.Schema.{Schema}
use Rattle.ub_zaddr.specs.Address.{IsPoint}

-- a point is in some of the boxes
abbrev pub IsInSome : List Corners → List ℕ → Type 0
IsInSome boxes point = (b : Corners) × Contains boxes b × IsInside b point

-- two boxes have no point in common
abbrev pub AreApart : Corners → Corners → Type 0
AreApart a b = (point : List ℕ) → IsInside a point → ¬ (IsInside b point)

-- one list of numbers lies before another: where they differ first, it has the lesser number
abbrev pub LiesBefore : List ℕ → List ℕ → Type 0
LiesBefore [] q = ⊥
LiesBefore (x ∷ p) [] = ⊥
LiesBefore (x ∷ p) (y ∷ q) = (x < y) ⊎ ((x ≡ y) × LiesBefore p q)

-- in the dimensions before this one two boxes agree, and in this one the second begins right after the end of the first
abbrev pub Adjoin : ℕ → Corners → Corners → Type 0
Adjoin dim a b =
    (take dim a.lo ≡ take dim b.lo) × (take dim a.hi ≡ take dim b.hi) × (slice_index a.hi dim + 1 ≡ slice_index b.lo dim)

-- the point of a row
abbrev pub point_of : Schema → Row → List ℕ
point_of schema row = take schema.dims row.dims

-- the boxes have no point in common
abbrev pub BoxesAreApart : Type 0
BoxesAreApart = (schema : Schema) (filter : Option Shape)
    → AllPairs AreApart (boxes_of schema filter)

-- the boxes are in lexicographic order: each lies before all later ones
abbrev pub BoxesAreInOrder : Type 0
BoxesAreInOrder = (schema : Schema) (filter : Option Shape)
    → AllPairs (λ a b. LiesBefore a.lo b.lo) (boxes_of schema filter)

-- boxes that adjoin along the last dimension, and agree in the others, are joined: no two of them do
abbrev pub BoxesAreJoined : Type 0
BoxesAreJoined = (schema : Schema) (filter : Option Shape) (a b : Corners)
    → Contains (boxes_of schema filter) a → Contains (boxes_of schema filter) b → ¬ Adjoin (schema.dims - 1) a b

-- where the condition isn't wide, a point is in the boxes exactly where its cover holds
abbrev pub BoxesAreTheCover : Type 0
BoxesAreTheCover = (schema : Schema) (filter : Option Shape) (point : List ℕ)
    → IsPoint schema.dims point → is_wide schema filter ≡ false
    → IsInSome (boxes_of schema filter) point ↔ IsTrue (covers schema filter point)

-- where it is wide, each point is in the boxes
abbrev pub WideBoxesAreTheSpace : Type 0
WideBoxesAreTheSpace = (schema : Schema) (filter : Option Shape) (point : List ℕ)
    → IsPoint schema.dims point → is_wide schema filter ≡ true → IsInSome (boxes_of schema filter) point

-- each selected row is in the boxes
abbrev pub SelectedAreInBoxes : Type 0
SelectedAreInBoxes = (schema : Schema) (filter : Option Shape) (row : Row)
    → IsPoint schema.dims (point_of schema row) → IsTrue (is_selected schema filter row)
    → IsInSome (boxes_of schema filter) (point_of schema row)

-- where the boxes are exact, the rows in them are the selected ones
abbrev pub ExactBoxesSelect : Type 0
ExactBoxesSelect = (schema : Schema) (filter : Option Shape) (row : Row)
    → IsPoint schema.dims (point_of schema row) → IsTrue (cover_of schema filter).exact
    → IsInSome (boxes_of schema filter) (point_of schema row) ↔ IsTrue (is_selected schema filter row)

-- the cuts of a dimension ascend, and are the coordinates from 1 on that stand for the values at which a comparison on it turns
abbrev pub CutsAreTheTurns : Type 0
CutsAreTheTurns = (schema : Schema) (c : Shape) (dim : ℕ)
    → IsStrictlyIncreasing (cuts schema (Some c) dim)
    × ((n : ℕ) → Contains (cuts schema (Some c) dim) n
    ↔ ((v : ℤ) × Contains (turns dim c) v × (cut_of schema dim v ≡ Some n)))

-- a comparison with a number turns exactly there: of such a value and the one before it holds of one alone
abbrev pub TurnsAreWhereItTurns : Type 0
TurnsAreWhereItTurns = (operator : Operator) (number value : ℤ) → Contains (turns_of operator number) value
    ↔ (holds operator value number ≢ holds operator (value -ℤ pos 1) number)

-- a condition is wide where it has more than 4096 cells
abbrev pub WideIsAbove4096 : Type 0
WideIsAbove4096 = (schema : Schema) (filter : Option Shape)
    → is_wide schema filter ≡ nat_lt 4096 (number_of_cells (grid schema filter))

-- how many points the boxes have together is how many points lie in them: so many has each list of just those, without repeats
abbrev pub PointsAreCounted : Type 0
PointsAreCounted = (schema : Schema) (filter : Option Shape) (points : List (List ℕ)) → AllPairs (λ p q. p ≢ q) points
    → ((p : List ℕ) → Contains points p ↔ IsInSome (boxes_of schema filter) p) → length points ≡ total (boxes_of schema filter)

-- a BETWEEN turns where its two comparisons do
abbrev pub BetweenTurnsTwice : Type 0
BetweenTurnsTwice = (dim column : ℕ) (low high : ℤ)
    → turns dim (between column low high)
    ≡ turns dim (both (compares column AtLeast low) (compares column AtMost high))

-- a BETWEEN can be at a point what its two comparisons together can be
abbrev pub BetweenCanBeAsTwo : Type 0
BetweenCanBeAsTwo = (schema : Schema) (point : List ℕ) (column : ℕ) (low high : ℤ)
    → can_be schema point (between column low high)
    ≡ can_be schema point (both (compares column AtLeast low) (compares column AtMost high))
