-- Worked examples: the boxes of some conditions over the small tables of `ub_query`'s examples, worked out by hand. Each is what the
-- function of its name in `example` ensures.
use Rattle.std.specs.Prelude.{◌≡◌, ℕ, Bool, true, false, List, [], ◌∷◌, Some, pos}
use Rattle.ub_bigmin.specs.Box.{Corners}
use Rattle.ub_boxes.specs.Boxes.{Covering, cover_of}
use Rattle.ub_query.specs.Examples.{both_sides, five}
use Rattle.ub_query.specs.Shape.{both, compares, either, neither}
use Rattle.ub_query.specs.declared.condition.Operator.TheVariants.{AtLeast, AtMost, Greater, Less}

-- the box of these two corners
abbrev pub box : List ℕ → List ℕ → Corners
box lo hi = record { lo = lo; hi = hi }

-- these boxes, which aren't wide
abbrev pub covering : List Corners → Bool → Covering
covering boxes exact = record { boxes = boxes; exact = exact; wide = false }

-- x <= 2 OR y >= 2: where x is at most 2 any y, and else a y from 2 on
abbrev pub TwoBoxesOfOr : Type 0
TwoBoxesOfOr = cover_of five.schema (Some (either (compares 0 AtMost (pos 2)) (compares 1 AtLeast (pos 2))))
    ≡ covering (box (0 ∷ 0 ∷ []) (2 ∷ 4294967295 ∷ []) ∷ box (3 ∷ 2 ∷ []) (4294967295 ∷ 4294967295 ∷ []) ∷ []) true

-- x > 9 AND x < 3: no box
abbrev pub NoBoxOfAnd : Type 0
NoBoxOfAnd = cover_of five.schema (Some (both (compares 0 Greater (pos 9)) (compares 0 Less (pos 3)))) ≡ covering [] true

-- NOT m > 4, of a measure: the whole space, and the condition is asked again
abbrev pub WholeSpaceOfMeasure : Type 0
WholeSpaceOfMeasure = cover_of five.schema (Some (neither (compares 2 Greater (pos 4))))
    ≡ covering (box (0 ∷ 0 ∷ []) (4294967295 ∷ 4294967295 ∷ []) ∷ []) false

-- x < 0 over a signed dimension: the coordinates of -2147483648 to -1
abbrev pub NegativesOfSigned : Type 0
NegativesOfSigned = cover_of both_sides.schema (Some (compares 0 Less (pos 0)))
    ≡ covering (box (0 ∷ []) (2147483647 ∷ []) ∷ []) true
