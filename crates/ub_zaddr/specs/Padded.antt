-- How a point lies in four places.
use Rattle.std.specs.Prelude.{◌≡◌, ℕ, ◌-◌, ◌^◌, ◌<◌, ◌≤◌, List, length, drop, replicate, All}

-- of four places the first few, and at least one, hold coordinates of 32 bits, and the others hold 0
pub record IsPadded (places : List ℕ) (count : ℕ) : Type 0 where
  pub four : length places ≡ 4
  pub some : 1 ≤ count
  pub within : count ≤ 4
  pub rest : drop count places ≡ replicate (4 - count) 0
  pub words : All (λ x. x < 2 ^ 32) places
