-- Names of tables and columns (SQL's regular identifiers, ASCII only).
use Rattle.std.specs.Prelude.{ℕ, ◌==◌, ◌&&◌, ◌||◌, Bool, not, nat_lt, nat_le, List, [], ◌∷◌, length, map, slice_index, IsTrue, codes}
use Rattle.std.specs.List.{list_all, list_any}
use Rattle.std.specs.Char.{is_ascii_alphabetic, is_ascii_digit, to_ascii_lowercase}
use Rattle.std.specs.Str.{bytes_eq}

-- a letter or `_`
abbrev pub is_letter : ℕ → Bool
is_letter c = is_ascii_alphabetic c || (c == 95)

-- a letter, a digit or `_`
abbrev pub is_word_byte : ℕ → Bool
is_word_byte c = is_letter c || is_ascii_digit c

-- the text is this word, in any mix of cases
abbrev pub is_word : List ℕ → List ℕ → Bool
is_word word text = bytes_eq (map to_ascii_lowercase word) (map to_ascii_lowercase text)

-- the words of the language, which no name may be
unfoldable pub keywords : List (List ℕ)
keywords =
    codes "INSERT" ∷ codes "INTO" ∷ codes "VALUES"
    ∷ codes "SELECT" ∷ codes "EXPLAIN" ∷ codes "FROM" ∷ codes "WHERE" ∷ codes "AND" ∷ codes "OR" ∷ codes "NOT"
    ∷ codes "BETWEEN" ∷ codes "GROUP" ∷ codes "ORDER" ∷ codes "BY" ∷ codes "ASC" ∷ codes "DESC" ∷ codes "LIMIT"
    ∷ codes "COUNT" ∷ codes "SUM" ∷ codes "MIN" ∷ codes "MAX" ∷ codes "DELETE" ∷ []

-- the text is a keyword, in any mix of cases
unfoldable pub is_keyword : List ℕ → Bool
is_keyword text = list_any (λ word. is_word word text) keywords

-- a name: 1 to 32 bytes, a letter or `_` first, then letters, digits and `_`, and no keyword
unfoldable pub is_name : List ℕ → Bool
is_name text =
    nat_lt 0 (length text) && nat_le (length text) 32
    && is_letter (slice_index text 0) && list_all is_word_byte text && not (is_keyword text)

abbrev pub IsName : List ℕ → Type 0
IsName text = IsTrue (is_name text)
