-- Numbers and their bytes on a page.
use Rattle.std.specs.Prelude.{ℕ, ◌-◌, List, [], ◌∷◌, ◌++◌, length, drop, replicate}
use Rattle.byteorder.specs.Endian.{big_bytes, big_number}

-- the lowest n bytes of x, the highest of them first
unfoldable pub number_bytes : ℕ → ℕ → List ℕ
number_bytes n x = big_bytes n x

-- the number in the n bytes from an offset on, the highest byte first
unfoldable pub number_at : ℕ → ℕ → List ℕ → ℕ
number_at n offset bytes = big_number n (drop offset bytes)

-- numbers one after the other, each with how many bytes it takes
abbrev pub layout : List (ℕ × ℕ) → List ℕ
layout [] = []
layout (field ∷ fields) = number_bytes field.0 field.1 ++ layout fields

-- the bytes, with zeros after them, as a page
abbrev pub padded : List ℕ → List ℕ
padded bytes = bytes ++ replicate (4096 - length bytes) 0
