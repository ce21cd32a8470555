-- What a refused call of a file that fails when it is told to leaves.
use Rattle.std.specs.Prelude.{◌≡◌, ◌≤◌, ℕ, List, length, max, min}
use Rattle.ub_file.specs.Raw.{with_length}

-- bytes of some length between that of before and this
abbrev pub IsBetween : ℕ → List ℕ → List ℕ → Type 0
IsBetween size old new = (part : ℕ) × (min (length old) size ≤ part) × (part ≤ max (length old) size) × (new ≡ with_length part old)
