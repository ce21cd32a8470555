-- What a reader that looks one symbol ahead is promised to give.
use Rattle.std.specs.Prelude.{◌≡◌, ◌≢◌, ◌<◌, ◌≤◌, Bool, true, false, List, [], ◌∷◌, ◌++◌, length, Option, Some, None}
use Rattle.ub_lexer.specs.declared.token.Token.{Token}
use Rattle.ub_syntax.specs.Grammar.{Lexeme, symbol_of}
use Rattle.ub_syntax.specs.declared.symbol.Symbol.{Symbol}

-- the symbol of the first lexeme, if there is one
abbrev pub first_symbol : List Lexeme → Option Symbol
first_symbol [] = None
first_symbol (l ∷ ls) = Some (symbol_of l)

-- the lexemes begin with none of these symbols
abbrev pub NotFirst : List Symbol → List Lexeme → Type 0
NotFirst [] ls = Unit {0}
NotFirst (s ∷ ss) ls = (first_symbol ls ≢ Some s) × NotFirst ss ls

-- where the lexemes begin with what P says of some x, and none of these symbols follows, that x was read and the rest is left
abbrev pub Reads : {A : Type 0} → (List Lexeme → A → Type 0) → List Symbol → List Lexeme → A → List Lexeme → Type 0
Reads {A} P ends old read new =
    (used rest : List Lexeme) (x : A) → old ≡ used ++ rest → P used x → NotFirst ends rest → (read ≡ x) × (new ≡ rest)

-- the first lexeme is read, whose token this is
pub record Advances (old : List Lexeme) (token : Token) (new : List Lexeme) : Type 0 where
  pub reads : (l : Lexeme) (ls : List Lexeme) → old ≡ l ∷ ls → (token ≡ l.token) × (new ≡ ls)
  pub shorter : length new ≤ length old

-- the first lexeme is read where it is this symbol, and nothing else
pub record Accepts (s : Symbol) (old : List Lexeme) (is_read : Bool) (new : List Lexeme) : Type 0 where
  pub reads : (l : Lexeme) (ls : List Lexeme) → old ≡ l ∷ ls → symbol_of l ≡ s → (is_read ≡ true) × (new ≡ ls)
  pub stays : first_symbol old ≢ Some s → (is_read ≡ false) × (new ≡ old)
  pub shorter : length new ≤ length old
  pub less : is_read ≡ true → length new < length old
