-- Whether the tokens begin as an INSERT or a DELETE does.
use Rattle.std.proofs.Common.{◌≡◌, ◌≢◌, ℕ, true, false, List, ◌∷◌, Option, Some, refl, sym, ap, ◌∙◌}
use Rattle.std.specs.Option.{option_eq}
use Rattle.ub_lexer.specs.declared.token.Token.{Token}
use Rattle.ub_syntax.specs.Grammar.{lexemes, symbol_of}
use Rattle.ub_syntax.specs.Reading.{first_symbol}
use Rattle.ub_syntax.specs.declared.symbol.Symbol.{Symbol}
use Rattle.ub_syntax.specs.declared.symbol.Symbol.TheVariants as symbol
use Rattle.ub_syntax.specs.contracts.symbol.SymbolPartialEq.TheImpl.{eq-value}
use Rattle.ub_syntax.proofs.Counting.{lexeme, first_of}
use Rattle.ub_syntax.proofs.Equal.{symbol_eq}

-- the test of a symbol tells whether it is that of INSERT
pub is_insert : (s : Symbol) → eq-value.it s symbol.Insert ≡ true → s ≡ symbol.Insert
is_insert s e = let h : Some s ≡ Some symbol.Insert = symbol_eq (Some s) symbol.Insert e in cc

pub no_insert : (s : Symbol) → eq-value.it s symbol.Insert ≡ false → s ≢ symbol.Insert
no_insert s e same =
    let yes : eq-value.it symbol.Insert symbol.Insert ≡ true = refl in
    let no : eq-value.it symbol.Insert symbol.Insert ≡ false = ap (λ (t : Symbol). eq-value.it t symbol.Insert) (sym same) ∙ e in
    let clash : true ≡ false = sym yes ∙ no in
    cc

-- so it tells whether the tokens begin so
pub begins_insert : (source : List ℕ) (tokens others : List Token) (first : Token) (s : Symbol) → tokens ≡ first ∷ others → s ≡ symbol_of (lexeme source first)
    → s ≡ symbol.Insert → first_symbol (lexemes source tokens) ≡ Some symbol.Insert
begins_insert source tokens others first s e is same = first_of source tokens others first s e is ∙ ap Some same

pub begins_other : (source : List ℕ) (tokens others : List Token) (first : Token) (s : Symbol) → tokens ≡ first ∷ others → s ≡ symbol_of (lexeme source first)
    → s ≢ symbol.Insert → first_symbol (lexemes source tokens) ≢ Some symbol.Insert
begins_other source tokens others first s e is other h = other (same s symbol.Insert (sym (first_of source tokens others first s e is) ∙ h))
  where
    same : (a b : Symbol) → Some a ≡ Some b → a ≡ b
    same a b e = cc

-- a first symbol that a test tells to be another
pub symbol_other : (o : Option Symbol) (b : Symbol) → eq-value.it b b ≡ true → option_eq eq-value.it o (Some b) ≡ false → o ≢ Some b
symbol_other o b self other same =
    let yes : option_eq eq-value.it o (Some b) ≡ true = ap (λ (p : Option Symbol). option_eq eq-value.it p (Some b)) same ∙ self in
    let clash : true ≡ false = sym yes ∙ other in
    cc
