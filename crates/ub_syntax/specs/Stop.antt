-- Where the tokens of a refused statement stop being the front of one.
use Rattle.std.specs.Prelude.{◌≡◌, ℕ, suc, ◌-◌, ◌⊎◌, List, ◌++◌, length, take, Some, slice_get}
use Rattle.ub_syntax.specs.Tree.{Stated}
use Rattle.ub_syntax.specs.Grammar.{Lexeme, symbol_of, IsStatement}
use Rattle.ub_syntax.specs.declared.symbol.Symbol.TheVariants as symbol

-- some statement with at most so many parentheses and NOTs round a place begins with these lexemes
abbrev pub Begins : ℕ → List Lexeme → Type 0
Begins n ls = (rest : List Lexeme) × (s : Stated) × IsStatement n (ls ++ rest) s

-- the lexeme at a place is the first such that no statement begins with those up to it and with it
pub record IsStop (n : ℕ) (ls : List Lexeme) (place : ℕ) (stop : Lexeme) : Type 0 where
  pub at : slice_get ls place ≡ Some stop
  pub before : Begins n (take place ls)
  pub not_with : ¬ Begins n (take (suc place) ls)

-- the stop is a `(` or NOT, and a statement that may nest deeper begins with the lexemes up to it and with it
pub record IsTooDeep (n : ℕ) (ls : List Lexeme) (place : ℕ) (stop : Lexeme) : Type 0 where
  pub is_stop : IsStop n ls place stop
  pub opens : (symbol_of stop ≡ symbol.Open) ⊎ (symbol_of stop ≡ symbol.Not)
  pub depth : ℕ
  pub deeper : Begins depth (take (suc place) ls)

-- the lexemes are no statement, no nesting is at fault, and the stop begins at this offset, or there is none and the last
-- lexeme ends there
abbrev pub IsRefusedAt : ℕ → List Lexeme → ℕ → Type 0
IsRefusedAt n ls at =
    ((s : Stated) → ¬ IsStatement n ls s)
    × (((place : ℕ) × (stop : Lexeme) × IsStop n ls place stop × (¬ IsTooDeep n ls place stop) × (at ≡ stop.token.from))
    ⊎ ((last : Lexeme) × (slice_get ls (length ls - 1) ≡ Some last) × Begins n ls × (at ≡ last.token.to)))

-- the nesting is at fault, at the stop, which begins at this offset
abbrev pub IsTooDeepAt : ℕ → List Lexeme → ℕ → Type 0
IsTooDeepAt n ls at = (place : ℕ) × (stop : Lexeme) × IsTooDeep n ls place stop × (at ≡ stop.token.from)
