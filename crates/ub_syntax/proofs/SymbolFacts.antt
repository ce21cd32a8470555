-- The symbol among the words from a place on.
use Rattle.std.proofs.Common.{◌≡◌, ◌<◌, ◌+◌, ◌∙◌, ◌↔◌, ◌||◌, ℕ, List, [], ◌∷◌, Bool, true, false, IsTrue, map, drop, get_or, length, refl, sym, ap, if◌then◌else◌}
use Rattle.std.proofs.lemmas.List.{drop_more}
use Rattle.std.proofs.lemmas.Bool.Decides.{same_from_decides}
use Rattle.std.proofs.lemmas.Slice.Eq.{bytes_eq-Decides}
use Rattle.std.specs.Char.{to_ascii_lowercase}
use Rattle.std.specs.List.{list_any}
use Rattle.ub_syntax.specs.Symbols.{keywords, symbol_among}
use Rattle.ub_syntax.specs.declared.symbol.Symbol.TheVariants as symbol
use Rattle.ub_syntax.specs.declared.symbol.Symbol.{Symbol}
use Rattle.ub_table.specs.Name as name
use Rattle.ub_table.specs.Name.{is_keyword, is_word}

chosen : (b : Bool) (s t is : Symbol) → (if b then s else t) ≡ is → b ≡ true → s ≡ is
chosen true s t is h e = h
chosen false s t is h e = cc

passed : (b : Bool) (s t is : Symbol) → (if b then s else t) ≡ is → b ≡ false → t ≡ is
passed true s t is h e = cc
passed false s t is h e = h

-- what a test of two texts in any mix of cases tells
tested : (r : Bool) (bytes word text : List ℕ) → bytes ≡ word → (IsTrue r ↔ (map to_ascii_lowercase bytes ≡ map to_ascii_lowercase text)) → is_word word text ≡ r
tested r bytes word text same test =
    ap (λ (w : List ℕ). is_word w text) (sym same) ∙ same_from_decides _ r (bytes_eq-Decides (map to_ascii_lowercase bytes) (map to_ascii_lowercase text)) test

pub among_here : {X : Type 0} (f : X → List ℕ × Symbol) (xs : List X) (i : ℕ) (d : X) (text bytes : List ℕ) (is : Symbol) (r : Bool) → i < length xs
    → symbol_among (map f (drop i xs)) text ≡ is → bytes ≡ (f (get_or xs i d)).0
    → (IsTrue r ↔ (map to_ascii_lowercase bytes ≡ map to_ascii_lowercase text)) → r ≡ true → (f (get_or xs i d)).1 ≡ is
among_here f xs i d text bytes is r h e same test t =
    let e2 = rw (drop_more xs i d h) at e in
    chosen _ _ _ is e2 (tested r bytes _ text same test ∙ t)

pub among_later : {X : Type 0} (f : X → List ℕ × Symbol) (xs : List X) (i : ℕ) (d : X) (text bytes : List ℕ) (is : Symbol) (r : Bool) → i < length xs
    → symbol_among (map f (drop i xs)) text ≡ is → bytes ≡ (f (get_or xs i d)).0
    → (IsTrue r ↔ (map to_ascii_lowercase bytes ≡ map to_ascii_lowercase text)) → r ≡ false → symbol_among (map f (drop (i + 1) xs)) text ≡ is
among_later f xs i d text bytes is r h e same test t =
    let e2 = rw (drop_more xs i d h) at e in
    passed _ _ _ is e2 (tested r bytes _ text same test ∙ t)

-- whether a symbol is that of a name
abbrev is_named : Symbol → Bool
is_named symbol.Name = true
is_named _ = false

name_step : (b is rest any : Bool) (x s : Symbol) → is_named x ≡ is → (is || rest) ≡ false → (if b then x else s) ≡ symbol.Name
    → (rest ≡ false → s ≡ symbol.Name → any ≡ false) → (b || any) ≡ false
name_step true is rest any x s e none h f =
    let yes : is ≡ true = sym e ∙ ap is_named h in
    let clash : (true || rest) ≡ false = ap (λ (i : Bool). i || rest) (sym yes) ∙ none in
    cc
name_step false true rest any x s e none h f = cc
name_step false false rest any x s e none h f = f none h

any_step : (b any : Bool) (x s : Symbol) → (b || any) ≡ false → (any ≡ false → s ≡ symbol.Name) → (if b then x else s) ≡ symbol.Name
any_step true any x s h f = cc
any_step false any x s h f = f h

-- of words of which none has the symbol of a name, none is the text where its symbol is that
names_are : (words : List (List ℕ × Symbol)) (text : List ℕ) → list_any (λ w. is_named w.1) words ≡ false → symbol_among words text ≡ symbol.Name
    → list_any (λ w. is_word w text) (map (λ w. w.0) words) ≡ false
names_are [] text none h = refl
names_are (w ∷ words) text none h = name_step (is_word w.0 text) (is_named w.1) _ _ w.1 (symbol_among words text) refl none h (names_are words text)

others_are : (words : List (List ℕ × Symbol)) (text : List ℕ) → list_any (λ w. is_word w text) (map (λ w. w.0) words) ≡ false → symbol_among words text ≡ symbol.Name
others_are [] text h = refl
others_are (w ∷ words) text h = any_step (is_word w.0 text) _ w.1 (symbol_among words text) h (others_are words text)

-- a word has the symbol of a name exactly where it is no keyword
pub name_unless_keyword : (text : List ℕ) → (symbol_among keywords text ≡ symbol.Name) ↔ (is_keyword text ≡ false)
unfolding keywords is_keyword name.keywords
name_unless_keyword text = (names_are keywords text refl, others_are keywords text)
