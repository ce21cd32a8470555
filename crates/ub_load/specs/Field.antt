-- What a field of a CSV record says.
use Rattle.std.specs.Prelude.{◌≡◌, true, ℕ, ◌==◌, ◌&&◌, Bool, nat_lt, ℤ, if◌then◌else◌, List, [], ◌∷◌, length, reverse}
use Rattle.std.specs.List.{list_all}
use Rattle.std.specs.Char.{is_ascii_digit}
use Rattle.std.specs.Str.Parse.{without_leading_sign, signed_digits_value}
use Rattle.ub_table.specs.Value.{fits_measure}

-- the bytes after any spaces at the front
abbrev pub after_spaces : List ℕ → List ℕ
after_spaces [] = []
after_spaces (c ∷ cs) = if c == 32 then after_spaces cs else c ∷ cs

-- the field without the spaces at its two ends
unfoldable pub trimmed : List ℕ → List ℕ
trimmed field = reverse (after_spaces (reverse (after_spaces field)))

-- an optional sign, and then one digit or more
unfoldable pub is_number : List ℕ → Bool
is_number text = nat_lt 0 (length (without_leading_sign text)) && list_all is_ascii_digit (without_leading_sign text)

-- the number that a sign and digits write
unfoldable pub number_of : List ℕ → ℤ
number_of text = signed_digits_value 10 text

-- a number that 64 bits with sign hold
abbrev pub IsWord : List ℕ → Type 0
IsWord text = (is_number text ≡ true) × (fits_measure (number_of text) ≡ true)
