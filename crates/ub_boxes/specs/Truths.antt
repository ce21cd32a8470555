-- What a condition can be at a point, of which the dimensions are known and the measures are not.
use Rattle.std.specs.Prelude.{ℕ, ℤ, Bool, true, not, ◌&&◌, ◌||◌, nat_lt, int_le, if◌then◌else◌, List, slice_index, Option, Some, None}
use Rattle.std.specs.Borrow.{Bor}
use Rattle.std.specs.Option.{option_map}
use Rattle.ub_boxes.specs.declared.truths.Truths.{Truths}
use Rattle.ub_query.specs.Shape.{Shape, shape, both, either, neither, compares, between}
use Rattle.ub_query.specs.Truth.{holds}
use Rattle.ub_query.specs.declared.condition.Cond.{Cond}
use Rattle.ub_table.specs.Value.{value}
use Rattle.ub_table.specs.declared.schema.Schema.{Schema}

-- what is known can be what it is alone, what isn't known can be both
abbrev pub known_as : Option Bool → Truths
known_as None = record { can_be_true = true; can_be_false = true }
known_as (Some b) = record { can_be_true = b; can_be_false = not b }

-- AND can be true where both sides can, and false where a side can
abbrev pub conjoined : Truths → Truths → Truths
conjoined a b = record {
  can_be_true = a.can_be_true && b.can_be_true;
  can_be_false = a.can_be_false || b.can_be_false;
}

-- OR can be true where a side can, and false where both sides can
abbrev pub disjoined : Truths → Truths → Truths
disjoined a b = record {
  can_be_true = a.can_be_true || b.can_be_true;
  can_be_false = a.can_be_false && b.can_be_false;
}

-- NOT exchanges the two
abbrev pub exchanged : Truths → Truths
exchanged a = record { can_be_true = a.can_be_false; can_be_false = a.can_be_true }

-- the value of a point in a column, which is known of a dimension and not of a measure
abbrev pub known_value : Schema → List ℕ → ℕ → Option ℤ
known_value schema point column =
    if nat_lt column schema.dims then Some (value schema column (slice_index point column)) else None

-- what a condition can be at a point
abbrev pub can_be : Schema → List ℕ → Shape → Truths
can_be schema point (both a b) = conjoined (can_be schema point a) (can_be schema point b)
can_be schema point (either a b) = disjoined (can_be schema point a) (can_be schema point b)
can_be schema point (neither a) = exchanged (can_be schema point a)
can_be schema point (compares column operator value) =
    known_as (option_map (λ x. holds operator x value) (known_value schema point column))
can_be schema point (between column low high) =
    known_as (option_map (λ x. int_le low x && int_le x high) (known_value schema point column))

-- the condition that is asked, without the boxes in which it lies in memory
abbrev pub shape_of : Option (Bor Cond) → Option Shape
shape_of filter = option_map (λ c. shape c.now) filter

-- the cover of a condition: the points at which it can be true; all of them where there is none
abbrev pub covers : Schema → Option Shape → List ℕ → Bool
covers schema None point = true
covers schema (Some c) point = (can_be schema point c).can_be_true

-- whether a condition names dimensions only
abbrev pub names_dimensions : Schema → Shape → Bool
names_dimensions schema (both a b) = names_dimensions schema a && names_dimensions schema b
names_dimensions schema (either a b) = names_dimensions schema a && names_dimensions schema b
names_dimensions schema (neither a) = names_dimensions schema a
names_dimensions schema (compares column operator value) = nat_lt column schema.dims
names_dimensions schema (between column low high) = nat_lt column schema.dims

-- whether what a query selects by, if anything, names dimensions only
abbrev pub is_of_dimensions : Schema → Option Shape → Bool
is_of_dimensions schema None = true
is_of_dimensions schema (Some c) = names_dimensions schema c
