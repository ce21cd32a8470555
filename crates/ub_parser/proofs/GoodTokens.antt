-- The tokens of a source are good where no number is too large: a name lies in the source, a number may be written.
use Rattle.std.proofs.Common.{◌≡◌, ◌<◌, ◌≤◌, ℕ, zero, suc, Bool, true, false, List, [], ◌∷◌, All, refl, arith, inl, inr, if◌then◌else◌}
use Rattle.std.proofs.lemmas.Bool.Decides.{leb_tells}
use Rattle.ub_lexer.specs.Tokens.{AreSpelled, text_of}
use Rattle.ub_lexer.specs.declared.token.Token.{Token}
use Rattle.ub_lexer.specs.declared.token.TokenKind.{TokenKind}
use Rattle.ub_lexer.specs.declared.token.TokenKind.TheVariants as kind
use Rattle.ub_syntax.specs.Grammar.{lexemes}
use Rattle.ub_syntax.specs.Symbols.{keywords, symbol_among, symbol}
use Rattle.ub_syntax.specs.declared.symbol.Symbol.{Symbol}
use Rattle.ub_syntax.specs.declared.symbol.Symbol.TheVariants as symbols
use Rattle.ub_query.specs.Posed.{greatest_number}
use Rattle.ub_parser.specs.Refusals.{IsTooLarge}
use Rattle.ub_parser.specs.Sense.{number_of}
use Rattle.ub_parser.specs.Spans.{IsWithin, IsSpelled, IsNumber}
use Rattle.ub_parser.proofs.Among.{Good, Are}
use Rattle.ub_table.specs.Name.{is_word}

is_number : Symbol → Bool
is_number symbols.Number = true
is_number _ = false

-- none of the words is a number
no_numbers : List (List ℕ × Symbol) → Bool
no_numbers [] = true
no_numbers (w ∷ ws) = if is_number w.1 then false else no_numbers ws

choose : (b : Bool) (s t : Symbol) → is_number s ≡ false → is_number t ≡ false → is_number (if b then s else t) ≡ false
choose true s t h k = h
choose false s t h k = k

split_if : (b : Bool) (c : Bool) → (if b then false else c) ≡ true → (b ≡ false) × (c ≡ true)
split_if true c h = cc
split_if false c h = (refl, h)

word_no_number : (ws : List (List ℕ × Symbol)) (text : List ℕ) → no_numbers ws ≡ true → is_number (symbol_among ws text) ≡ false
unfolding is_number no_numbers
word_no_number [] text h = refl
word_no_number (w ∷ ws) text h =
    let parts = split_if (is_number w.1) (no_numbers ws) h in
    choose (is_word w.0 text) w.1 (symbol_among ws text) parts.0 (word_no_number ws text parts.1)

-- a number is spelled by a token that is one
number_kind : (k : TokenKind) (text : List ℕ) → symbol k text ≡ symbols.Number → k ≡ kind.Number
unfolding is_number no_numbers keywords
number_kind kind.Number text h = refl
number_kind kind.Word text h =
    let no : is_number (symbol_among keywords text) ≡ false = word_no_number keywords text refl in
    let yes = rw h at no in cc
number_kind kind.Comma text h = cc
number_kind kind.OpenParenthesis text h = cc
number_kind kind.CloseParenthesis text h = cc
number_kind kind.Star text h = cc
number_kind kind.Semicolon text h = cc
number_kind kind.Equal text h = cc
number_kind kind.NotEqual text h = cc
number_kind kind.Less text h = cc
number_kind kind.AtMost text h = cc
number_kind kind.Greater text h = cc
number_kind kind.AtLeast text h = cc
number_kind kind.Minus text h = cc
number_kind kind.Bad text h = cc

small : (n m : ℕ) → ¬ (m < n) → n ≤ m
small n m h = elim (leb_tells n m) [ inl t ↦ t.1 | inr f ↦ absurd (h f.1) ]

one_good : (source : List ℕ) (t : Token) → IsSpelled source t → ¬ (IsTooLarge source t)
    → Good (IsWithin source) (IsNumber source) (record { token = t; text = text_of source t })
one_good source t is few =
    let span = is.0 in
    let within : IsWithin source t = (omega arith, is.1) in (
      λ name. within,
      λ number.
          let k = number_kind t.kind (text_of source t) number in
          ((within, rw k at is.2), small (number_of source t) greatest_number (λ over. few (k, over))),
    )

tail : {A : Type 0} (P : A → Type 0) (x : A) (xs : List A) → All P (x ∷ xs) → All P xs
tail P x xs h = λ k d below. h (suc k) d (omega arith)

pub are_good : (source : List ℕ) (tokens : List Token) → AreSpelled source tokens → All (λ t. ¬ (IsTooLarge source t)) tokens
    → Are (IsWithin source) (IsNumber source) (lexemes source tokens)
are_good source [] is few = tt
are_good source (t ∷ ts) is few =
    (one_good source t (is zero t (omega arith)) (few zero t (omega arith)), are_good source ts (tail (λ x. IsSpelled source x) t ts is) (tail (λ t. ¬ (IsTooLarge source t)) t ts few))
