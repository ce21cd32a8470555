-- Whether a condition holds of a row (SQL's search condition; no value of a table is NULL, so it is true or false).
use Rattle.std.specs.Prelude.{ℕ, ℤ, Bool, not, ◌&&◌, ◌||◌, int_le}
use Rattle.std.specs.Ordering.{int_eq}
use Rattle.ub_query.specs.Shape.{Shape, both, either, neither, compares, between}
use Rattle.ub_query.specs.declared.condition.Operator.{Operator}
use Rattle.ub_query.specs.declared.condition.Operator.TheVariants.{Equal, NotEqual, Less, AtMost, Greater, AtLeast}

-- whether one whole number compares so with another (SQL's comparison predicate)
abbrev pub holds : Operator → ℤ → ℤ → Bool
holds Equal a b = int_eq a b
holds NotEqual a b = not (int_eq a b)
holds Less a b = not (int_le b a)
holds AtMost a b = int_le a b
holds Greater a b = not (int_le a b)
holds AtLeast a b = int_le b a

-- whether the condition holds of these values of the columns; BETWEEN is two comparisons
abbrev pub truth : (ℕ → ℤ) → Shape → Bool
truth value (both a b) = truth value a && truth value b
truth value (either a b) = truth value a || truth value b
truth value (neither a) = not (truth value a)
truth value (compares column operator number) = holds operator (value column) number
truth value (between column low high) = int_le low (value column) && int_le (value column) high
