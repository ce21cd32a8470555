-- Where a range of numbers is cut at a bit.
use Rattle.std.specs.Prelude.{ℕ, ◌*◌, ◌/◌, ◌^◌}

-- the number x with 0 in the bits below b: where x has bit b, the middle of the numbers that agree with x above b
abbrev pub middle : ℕ → ℕ → ℕ
middle x b = x / 2 ^ b * 2 ^ b
