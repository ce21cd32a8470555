-- The statements of a script: the runs of tokens between its semicolons.
use Rattle.std.specs.Prelude.{◌≡◌, ◌≢◌, ℕ, ◌-◌, ◌<◌, ◌≤◌, ◌⊎◌, ◌↔◌, List, length, map, Option, Some, slice_get, Contains}
use Rattle.std.specs.Option.{option_map}
use Rattle.std.specs.List.Sorted.{IsStrictlyIncreasing}
use Rattle.ub_lexer.specs.declared.token.TokenKind.{TokenKind}
use Rattle.ub_lexer.specs.declared.token.TokenKind.TheVariants.{Semicolon}
use Rattle.ub_lexer.specs.declared.token.Token.{Token}

-- the kind of the token at a place
abbrev pub kind_at : List Token → ℕ → Option TokenKind
kind_at tokens i = option_map (λ t. t.kind) (slice_get tokens i)

-- from a up to b, not empty, there is no semicolon, and on both sides there is one or the source ends
abbrev pub IsStatementRange : List Token → ℕ × ℕ → Type 0
IsStatementRange tokens r =
    (r.0 < r.1) × (r.1 ≤ length tokens)
    × ((i : ℕ) → r.0 ≤ i → i < r.1 → kind_at tokens i ≢ Some Semicolon)
    × ((r.0 ≡ 0) ⊎ (kind_at tokens (r.0 - 1) ≡ Some Semicolon))
    × ((r.1 ≡ length tokens) ⊎ (kind_at tokens r.1 ≡ Some Semicolon))

-- these are the ranges of all the statements, in order
abbrev pub AreStatements : List Token → List (ℕ × ℕ) → Type 0
AreStatements tokens ranges =
    IsStrictlyIncreasing (map (λ r. r.0) ranges) × ((r : ℕ × ℕ) → Contains ranges r ↔ IsStatementRange tokens r)
