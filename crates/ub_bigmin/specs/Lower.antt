-- The lower of two jumps.
use Rattle.std.specs.Prelude.{◌≡◌, ℕ, ◌<◌, ◌≤◌, Option, Some, None}
use Rattle.ub_bigmin.specs.declared.words.Jump.{Jump}

-- of a jump, if any, and one at a bit of a later dimension, if any, the lower; of two at one bit the later dimension's
abbrev pub IsLower : Option Jump → ℕ → Option ℕ → Option Jump → Type 0
IsLower best i None lower = lower ≡ best
IsLower None i (Some k) lower = lower ≡ Some (record { dimension = i; bit = k })
IsLower (Some j) i (Some k) lower = (j.bit < k → lower ≡ Some j) × (k ≤ j.bit → lower ≡ Some (record { dimension = i; bit = k }))
