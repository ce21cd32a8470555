-- Which of two numbers has the higher bit.
use Rattle.std.specs.Prelude.{ℕ, ◌^◌, ◌<◌, ◌≤◌}

-- the highest bit of x is above all bits of y
abbrev pub IsHigher : ℕ → ℕ → Type 0
IsHigher x y = (bit : ℕ) × (y < 2 ^ bit) × (2 ^ bit ≤ x)
