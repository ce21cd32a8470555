-- The numbers that stand on a page, whatever it is.
use Rattle.std.specs.Prelude.{◌*◌, ℕ, List, map, drop}
use Rattle.std.specs.List.{range_with_len}
use Rattle.byteorder.specs.Endian.{big_number}

-- the number in the four bytes from an offset on, the highest byte first
unfoldable pub number_at : ℕ → List ℕ → ℕ
number_at offset bytes = big_number 4 (drop offset bytes)

-- the first so many numbers that stand on a page
abbrev pub numbers_on : ℕ → List ℕ → List ℕ
numbers_on n page = map (λ i. number_at (4 * i) page) (range_with_len 0 n)
