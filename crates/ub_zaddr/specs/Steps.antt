-- One step in which groups of bits are moved apart, or together.
use Rattle.std.specs.Prelude.{ℕ, ◌*◌, ◌/◌, ◌%◌, ◌^◌, bit_and, bit_or}

unfoldable pub opened : ℕ → ℕ → ℕ → ℕ
opened by mask x = bit_and (bit_or x (x * 2 ^ by % 2 ^ 64)) mask

unfoldable pub closed : ℕ → ℕ → ℕ → ℕ
closed by mask x = bit_and (bit_or x (x / 2 ^ by)) mask
