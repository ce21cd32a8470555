-- Classes of bytes, and how each kind of token is spelled (SQL's lexical elements, ASCII only).
use Rattle.std.specs.Prelude.{◌≡◌, ◌<◌, ℕ, ◌==◌, ◌||◌, Bool, ◌⊎◌, List, [], ◌∷◌, length, slice_index, IsTrue, IsFalse, codes}
use Rattle.std.specs.List.{list_any, AllPass}
use Rattle.std.specs.Char.{is_ascii_alphabetic, is_ascii_digit}
use Rattle.ub_lexer.specs.declared.token.TokenKind.{TokenKind}
use Rattle.ub_lexer.specs.declared.token.TokenKind.TheVariants.{Word, Number, Comma, OpenParenthesis, CloseParenthesis, Star, Semicolon, Equal, NotEqual, Less, AtMost, Greater, AtLeast, Minus, Bad}

-- space, tab, line feed or carriage return
abbrev pub is_separator : ℕ → Bool
is_separator c = (c == 32) || (c == 9) || (c == 10) || (c == 13)

-- a letter or `_`
abbrev pub is_letter : ℕ → Bool
is_letter c = is_ascii_alphabetic c || (c == 95)

-- a letter, a digit or `_`
abbrev pub is_word_byte : ℕ → Bool
is_word_byte c = is_letter c || is_ascii_digit c

-- a byte that is a token by itself: one of , ( ) * ; = < > -
abbrev pub is_sign : ℕ → Bool
is_sign c = list_any (λ s. c == s) (codes ",()*;=<>-")

-- the texts that a token of each kind can have
abbrev pub IsSpelling : TokenKind → List ℕ → Type 0
IsSpelling Word text = (0 < length text) × IsTrue (is_letter (slice_index text 0)) × AllPass is_word_byte text
IsSpelling Number text = (0 < length text) × AllPass is_ascii_digit text
IsSpelling Comma text = text ≡ codes ","
IsSpelling OpenParenthesis text = text ≡ codes "("
IsSpelling CloseParenthesis text = text ≡ codes ")"
IsSpelling Star text = text ≡ codes "*"
IsSpelling Semicolon text = text ≡ codes ";"
IsSpelling Equal text = text ≡ codes "="
IsSpelling NotEqual text = (text ≡ codes "<>") ⊎ (text ≡ codes "!=")
IsSpelling Less text = text ≡ codes "<"
IsSpelling AtMost text = text ≡ codes "<="
IsSpelling Greater text = text ≡ codes ">"
IsSpelling AtLeast text = text ≡ codes ">="
IsSpelling Minus text = text ≡ codes "-"
IsSpelling Bad text =
    (c : ℕ) × (text ≡ c ∷ []) × IsFalse (is_separator c) × IsFalse (is_word_byte c) × IsFalse (is_sign c)
