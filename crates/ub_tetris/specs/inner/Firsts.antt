-- The value by which most rows that are held are told apart.
use Rattle.std.specs.Prelude.{ℤ, pos, List, [], ◌∷◌}

-- the first of some values; 0 where there are none
abbrev pub first_of : List ℤ → ℤ
first_of [] = pos 0
first_of (value ∷ values) = value
