-- Columns of numbers, as they are spelled: each number on so many bytes, the highest of them first.
use Rattle.std.specs.Prelude.{ℕ, ℤ, pos, List, slice_index_or}
use Rattle.std.specs.Int.{w64, cast_unsigned}
use Rattle.std.specs.List.{flat_map, range_with_len}
use Rattle.ub_bytes.specs.Bytes.{number_bytes}

-- the numbers of 0 to n - 1, each on so many bytes
abbrev pub first_numbers : ℕ → (ℕ → ℕ) → ℕ → List ℕ
first_numbers width number n = flat_map (λ i. number_bytes width (number i)) (range_with_len 0 n)

-- what a page holds of each place: a row's number or a dimension, and a measure in two's complement
abbrev pub word_in : List ℕ → ℕ → ℕ
word_in column i = slice_index_or column i 0

abbrev pub measure_in : List ℤ → ℕ → ℕ
measure_in column i = cast_unsigned w64 (slice_index_or column i (pos 0))
