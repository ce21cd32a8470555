-- Bits of a number moved from places at one distance to places at another.
use Rattle.std.specs.Prelude.{ℕ, ◌*◌, ◌^◌}
use Rattle.std.specs.Int.{bit_at}
use Rattle.ub_zaddr.specs.Address.{sum_below}

-- the lowest n of the bits of x that stand at every c-th place, put at every e-th place
unfoldable pub moved : ℕ → ℕ → ℕ → ℕ → ℕ
moved c e n x = sum_below (λ b. bit_at x (b * c) * 2 ^ (b * e)) n

-- the lowest n bits of x, put at every d-th place
abbrev pub spaced : ℕ → ℕ → ℕ → ℕ
spaced d n x = moved 1 d n x

-- the lowest n of the bits of x that stand at every d-th place, put together
abbrev pub gathered : ℕ → ℕ → ℕ → ℕ
gathered d n x = moved d 1 n x
