-- A range that may be empty.
use Rattle.std.specs.Prelude.{ℕ, List, [], ◌∷◌, nat_lt, if◌then◌else◌}

-- the range from one place up to another, if it isn't empty
abbrev pub range_if : ℕ → ℕ → List (ℕ × ℕ)
range_if from to = (if nat_lt from to then (from, to) ∷ [] else [])
