-- What a script says: its statements, each accepted, or refused.
use Rattle.std.specs.Prelude.{◌≡◌, ◌⊎◌, ℕ, List, Result, Ok, Err, IsTrue, codes, slice_range}
use Rattle.std.specs.List.{All, Any}
use Rattle.ub_lexer.specs.Statements.{AreStatements}
use Rattle.ub_lexer.specs.Tokens.{AreTokens, text_of}
use Rattle.ub_lexer.specs.declared.token.Token.{Token}
use Rattle.ub_lexer.specs.declared.token.TokenKind.TheVariants.{Word}
use Rattle.ub_parser.specs.Outcome.{Command, asks, puts, takes, IsAccepted}
use Rattle.ub_parser.specs.Refusals.{IsFirstFault}
use Rattle.ub_parser.specs.declared.fault.SqlFault.{SqlFault}
use Rattle.ub_table.specs.Name.{is_word}
use Rattle.ub_table.specs.declared.schema.Schema.{Schema}

-- what a statement is told: what it says, or why it is refused
abbrev pub Outcome : Type 0
Outcome = Result Command SqlFault

-- what the tokens of a statement are told
abbrev pub IsOutcome : Schema → List ℕ → List Token → Outcome → Type 0
IsOutcome schema source tokens outcome =
    ((fault : SqlFault) × IsFirstFault source schema tokens fault × (outcome ≡ Err fault))
    ⊎ ((c : Command) × IsAccepted source schema tokens c × (outcome ≡ Ok c))

-- the same, and they are told nothing else
pub record IsTheOutcome (schema : Schema) (source : List ℕ) (tokens : List Token) (outcome : Outcome) : Type 0 where
  pub told : IsOutcome schema source tokens outcome
  pub only : (other : Outcome) → IsOutcome schema source tokens other → other ≡ outcome

-- it changes the table
abbrev pub IsChange : Command → Type 0
IsChange (asks t) = ⊥
IsChange (puts values) = Unit {0}
IsChange (takes q) = Unit {0}

-- the statement of these tokens isn't accepted as one that changes the table
abbrev pub IsAsking : Schema → List ℕ → List Token → Type 0
IsAsking schema source tokens = (c : Command) → IsAccepted source schema tokens c → ¬ IsChange c

-- none of those at these ranges is
abbrev pub AreAsking : Schema → List ℕ → List Token → List (ℕ × ℕ) → Type 0
AreAsking schema source tokens ranges = All (λ range. IsAsking schema source (slice_range tokens range.0 range.1)) ranges

-- nor is any statement of the script: it only asks
abbrev pub OnlyAsks : Schema → List ℕ → Type 0
OnlyAsks schema script =
    (tokens : List Token) (ranges : List (ℕ × ℕ)) → AreTokens script tokens → AreStatements tokens ranges
    → AreAsking schema script tokens ranges

-- the token is a word with which a statement begins that changes the table: INSERT or DELETE, in any mix of cases
abbrev pub IsChangeWord : List ℕ → Token → Type 0
IsChangeWord source t =
    (t.kind ≡ Word) × (IsTrue (is_word (codes "INSERT") (text_of source t)) ⊎ IsTrue (is_word (codes "DELETE") (text_of source t)))

-- such a word stands among the tokens of the script, wherever that is; what stands in a comment is no token
abbrev pub HasChangeWord : List ℕ → Type 0
HasChangeWord script = (tokens : List Token) × AreTokens script tokens × Any (λ t. IsChangeWord script t) tokens
