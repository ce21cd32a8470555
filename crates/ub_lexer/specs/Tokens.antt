-- The tokens of a source: it is a row of separators, comments and longest tokens.
use Rattle.std.specs.Prelude.{◌≡◌, ◌≢◌, ℕ, ◌+◌, ◌<◌, ◌≤◌, ◌⊎◌, List, [], ◌∷◌, ◌++◌, length, take, slice_index, slice_range, IsTrue, All, codes}
use Rattle.std.specs.List.{flat_map}
use Rattle.ub_lexer.specs.Text.{is_separator, IsSpelling}
use Rattle.ub_lexer.specs.declared.token.TokenKind.{TokenKind}
use Rattle.ub_lexer.specs.declared.token.Token.{Token}

-- a piece of a source: a separator's byte, a comment's text after its two dashes, or a token with its text
pub data Piece : Type 0 where
  separator : ℕ → Piece
  comment : List ℕ → Piece
  token : TokenKind → List ℕ → Piece

-- the bytes of a piece
abbrev pub spelled : Piece → List ℕ
spelled (separator c) = c ∷ []
spelled (comment body) = codes "--" ++ body
spelled (token kind text) = text

-- no more bytes than these begin a token at this place, and no comment begins there
abbrev pub IsLongest : List ℕ → List ℕ → Type 0
IsLongest text rest =
    (take 2 (text ++ rest) ≢ codes "--")
    × ((kind : TokenKind) (n : ℕ) → length text < n → n ≤ length (text ++ rest) → ¬ IsSpelling kind (take n (text ++ rest)))

-- the piece can stand before the rest of the source
abbrev pub StandsBefore : Piece → List ℕ → Type 0
StandsBefore (separator c) rest = IsTrue (is_separator c)
StandsBefore (comment body) rest = All (λ c. c ≢ 10) body × ((rest ≡ []) ⊎ (slice_index rest 0 ≡ 10))
StandsBefore (token kind text) rest = IsSpelling kind text × IsLongest text rest

-- each piece can stand before what follows it
abbrev pub AreInRow : List Piece → Type 0
AreInRow [] = Unit {0}
AreInRow (p ∷ ps) = StandsBefore p (flat_map spelled ps) × AreInRow ps

-- the tokens among the pieces, the first of which begins at this offset
abbrev pub tokens_from : ℕ → List Piece → List Token
tokens_from at [] = []
tokens_from at (separator c ∷ ps) = tokens_from (at + 1) ps
tokens_from at (comment body ∷ ps) = tokens_from (at + length (codes "--" ++ body)) ps
tokens_from at (token kind text ∷ ps) =
    record { kind = kind; from = at; to = at + length text } ∷ tokens_from (at + length text) ps

-- the source is a row of pieces, of which these are the tokens
abbrev pub AreTokens : List ℕ → List Token → Type 0
AreTokens source tokens =
    (ps : List Piece) × (source ≡ flat_map spelled ps) × AreInRow ps × (tokens ≡ tokens_from 0 ps)

-- the text of a token
abbrev pub text_of : List ℕ → Token → List ℕ
text_of source t = slice_range source t.from t.to

-- the spans ascend from an offset on, are not empty, do not overlap and end within so many bytes
abbrev pub SpansAscend : ℕ → ℕ → List Token → Type 0
SpansAscend at bytes [] = Unit {0}
SpansAscend at bytes (t ∷ ts) = (at ≤ t.from) × (t.from < t.to) × (t.to ≤ bytes) × SpansAscend t.to bytes ts

-- each token's span lies in the source, and its text is spelled as its kind asks
abbrev pub AreSpelled : List ℕ → List Token → Type 0
AreSpelled source tokens =
    All (λ t. (t.from < t.to) × (t.to ≤ length source) × IsSpelling t.kind (text_of source t)) tokens
