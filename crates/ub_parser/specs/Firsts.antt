-- What is answered of the first of some things.
use Rattle.std.specs.Prelude.{◌≡◌, ℕ, List, Option, Some, None}
use Rattle.std.specs.List.{All}
use Rattle.ub_lexer.specs.declared.token.Token.{Token}
use Rattle.ub_parser.specs.Refusals.{IsFirst}
use Rattle.ub_parser.specs.declared.fault.SqlFault.{SqlFault}

-- the first of some things of which P holds, or none where it holds of none of them
abbrev pub IsFirstOrNone : {A : Type 0} → (A → Type 0) → List A → Option A → Type 0
IsFirstOrNone P xs None = All (λ x. ¬ P x) xs
IsFirstOrNone P xs (Some x) = IsFirst P xs x

-- the refusal at the first of some tokens of which P holds, or none where it holds of none of them
abbrev pub IsRefusalAtFirst : (Token → Type 0) → (ℕ → SqlFault) → List Token → Option SqlFault → Type 0
IsRefusalAtFirst P refusal tokens None = All (λ t. ¬ P t) tokens
IsRefusalAtFirst P refusal tokens (Some fault) = (t : Token) × IsFirst P tokens t × (fault ≡ refusal t.from)
