-- Where the comparisons of a condition turn: the cuts of a dimension.
use Rattle.std.specs.Prelude.{ℕ, ℤ, pos, ◌+ℤ◌, ◌==◌, nat_lt, if◌then◌else◌, List, [], ◌∷◌, ◌++◌, Option, Some, None}
use Rattle.ub_query.specs.Shape.{Shape, both, either, neither, compares, between}
use Rattle.ub_query.specs.declared.condition.Operator.{Operator}
use Rattle.ub_query.specs.declared.condition.Operator.TheVariants.{Equal, NotEqual, Less, AtMost, Greater, AtLeast}
use Rattle.ub_table.specs.Value.{coordinate}
use Rattle.ub_table.specs.declared.schema.Schema.{Schema}

-- a coordinate, if it is one from 1 on
abbrev pub above_least : Option ℕ → Option ℕ
above_least None = None
above_least (Some n) = if nat_lt 0 n then Some n else None

-- the cut that a value of a dimension is: the coordinate that stands for it, if that is one from 1 on
abbrev pub cut_of : Schema → ℕ → ℤ → Option ℕ
cut_of schema dim v = above_least (coordinate schema dim v)

-- the values at which a comparison with a number turns: of the value and the one before, it holds of one alone
abbrev pub turns_of : Operator → ℤ → List ℤ
turns_of Equal v = v ∷ (v +ℤ pos 1) ∷ []
turns_of NotEqual v = v ∷ (v +ℤ pos 1) ∷ []
turns_of Less v = v ∷ []
turns_of AtMost v = (v +ℤ pos 1) ∷ []
turns_of Greater v = (v +ℤ pos 1) ∷ []
turns_of AtLeast v = v ∷ []

-- the values at which the comparisons on a dimension turn, as they stand in the condition
abbrev pub turns : ℕ → Shape → List ℤ
turns dim (both a b) = turns dim a ++ turns dim b
turns dim (either a b) = turns dim a ++ turns dim b
turns dim (neither a) = turns dim a
turns dim (compares column operator value) = if column == dim then turns_of operator value else []
turns dim (between column low high) = if column == dim then low ∷ (high +ℤ pos 1) ∷ [] else []

-- an ascending list with a number put into it, if it isn't there
abbrev pub put : ℕ → List ℕ → List ℕ
put n [] = n ∷ []
put n (m ∷ ms) = if nat_lt n m then n ∷ m ∷ ms else (if n == m then m ∷ ms else m ∷ put n ms)

-- the same with what may be a number
abbrev pub put_some : Option ℕ → List ℕ → List ℕ
put_some None ms = ms
put_some (Some n) ms = put n ms

-- an ascending list of cuts, and those that some values are
abbrev pub put_cuts : Schema → ℕ → List ℤ → List ℕ → List ℕ
put_cuts schema dim [] cuts = cuts
put_cuts schema dim (v ∷ vs) cuts = put_cuts schema dim vs (put_some (cut_of schema dim v) cuts)

-- the cuts of a dimension: the coordinates from 1 on that stand for the values at which a comparison on it turns, each once, in
-- ascending order
abbrev pub cuts : Schema → Option Shape → ℕ → List ℕ
cuts schema None dim = []
cuts schema (Some c) dim = put_cuts schema dim (turns dim c) []
