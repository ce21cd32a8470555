-- What the tokenizer's own functions tell of a place in a source.
use Rattle.std.specs.Prelude.{◌≡◌, ◌==◌, ◌≤◌, ◌+◌, ℕ, Bool, not, ◌⊎◌, List, [], ◌∷◌, length, drop, slice_index, slice_range, Option, None, Some, IsFalse, codes}
use Rattle.std.specs.List.{AllPass}
use Rattle.std.specs.Char.{is_ascii_digit}
use Rattle.ub_lexer.specs.Text.{is_word_byte}
use Rattle.ub_lexer.specs.Tokens.{Piece, separator, comment, token, spelled, StandsBefore}
use Rattle.ub_lexer.specs.declared.token.TokenKind.{TokenKind}
use Rattle.ub_lexer.specs.declared.token.Token.{Token}
use Rattle.ub_lexer.specs.declared.lexer.Run.{Run}
use Rattle.ub_lexer.specs.declared.lexer.Run.TheVariants.{OfWord, OfNumber, OfComment}

-- whether a run goes on over a byte
abbrev pub goes_on : Run → ℕ → Bool
goes_on OfWord c = is_word_byte c
goes_on OfNumber c = is_ascii_digit c
goes_on OfComment c = not (c == 10)

-- a run of bytes that pass goes from one place up to another, and no further
pub record IsRun (pass : ℕ → Bool) (source : List ℕ) (from to : ℕ) : Type 0 where
  pub ordered : from ≤ to
  pub within : to ≤ length source
  pub passes : AllPass pass (slice_range source from to)
  pub stops : (to ≡ length source) ⊎ IsFalse (pass (slice_index source to))

-- the two bytes are a sign
abbrev pub IsPair : ℕ → ℕ → Type 0
IsPair c d =
    ((c ∷ d ∷ []) ≡ codes "<>") ⊎ (((c ∷ d ∷ []) ≡ codes "!=") ⊎ (((c ∷ d ∷ []) ≡ codes "<=") ⊎ ((c ∷ d ∷ []) ≡ codes ">=")))

-- the kind of token that a piece is, if it is one
abbrev pub kind_of : Piece → Option TokenKind
kind_of (separator c) = None
kind_of (comment body) = None
kind_of (token kind text) = Some kind

-- a piece stands from one place of the source up to another, and is a token of this kind or none
abbrev pub IsPieceAt : List ℕ → ℕ → Option TokenKind → ℕ → Type 0
IsPieceAt source from kind to =
    (p : Piece) × (spelled p ≡ slice_range source from to) × (from + length (spelled p) ≡ to) × (kind_of p ≡ kind)
    × (to ≤ length source) × StandsBefore p (drop to source)

-- the token of this kind with this span, if there is a kind
abbrev pub token_if : Option TokenKind → ℕ → ℕ → List Token
token_if None from to = []
token_if (Some kind) from to = record { kind = kind; from = from; to = to } ∷ []
