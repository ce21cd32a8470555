-- How the lists and the clauses of a statement are read.
use Rattle.std.proofs.Common.{◌≡◌, ◌≢◌, ℕ, true, List, [], ◌∷◌, ◌++◌, Some, None, Result, Ok, Err, IfOk, refl, sym, ap, ◌∙◌}
use Rattle.ub_lexer.specs.declared.token.Token.{Token}
use Rattle.ub_syntax.specs.Grammar.{Lexeme, IsToken, AreJoined, IsItem, IsSelection, IsKey, IsCondition, IsOptional, IsFilter, AreListedBy}
use Rattle.ub_syntax.specs.Reading.{first_symbol, Reads, Advances, Accepts}
use Rattle.ub_syntax.specs.Tree.{Shape}
use Rattle.ub_syntax.specs.declared.symbol.Symbol.{Symbol}
use Rattle.ub_syntax.specs.declared.symbol.Symbol.TheVariants as symbol
use Rattle.ub_syntax.specs.declared.syntax.Item.{Item}
use Rattle.ub_syntax.specs.declared.syntax.Item.TheVariants.{Column, Count, Aggregate}
use Rattle.ub_syntax.specs.declared.syntax.OrderKey.{OrderKey}
use Rattle.ub_syntax.specs.declared.syntax.Selection.TheVariants.{All, Listed}
use Rattle.ub_syntax.proofs.Parts.{cut, first_is, is_of, advance_token, advance_is, accept_is}
use Rattle.ub_syntax.proofs.Chains.{Separates, split}

pub token_reads : (s : Symbol) (old new : List Lexeme) (token : Token) → Advances old token new → Reads (IsToken s) [] old token new
token_reads s old new token a used rest x e w end = advance_token s used rest old x token new a w e

-- no comma goes on with an item, nor with a key
pub comma_separates : Separates symbol.Comma [] (symbol.Comma ∷ [])
comma_separates = record {
  joint = λ ls h. tt;
  end = λ ls h. tt;
  other = λ ls h. h.0;
}

pub keys_separate : Separates symbol.Comma (symbol.Descending ∷ symbol.Ascending ∷ []) (symbol.Comma ∷ symbol.Descending ∷ symbol.Ascending ∷ [])
keys_separate = record {
  joint = λ ls h. ((λ k. cc), ((λ k. cc), tt));
  end = λ ls h. h.1;
  other = λ ls h. h.0;
}

-- an item begins with no star
item_first : (old part tail : List Lexeme) (x : Item) → old ≡ part ++ tail → IsItem part x → first_symbol old ≢ Some symbol.Star
item_first old part tail (Column name) e w h =
    let f = first_is symbol.Name part tail old (is_of symbol.Name part name w) e in
    let never : ⊥ = cc in
    never
item_first old part tail (Count first) e w h =
    let f = first_is symbol.Count w.0 ((w.1 ++ (w.2 ++ w.3)) ++ tail) old (is_of symbol.Count w.0 first w.5) (cut old part tail w.0 (w.1 ++ (w.2 ++ w.3)) e w.4) in
    let never : ⊥ = cc in
    never
item_first old part tail (Aggregate a first column) e w h =
    let f = first_is (symbol.Aggregate a) w.0 ((w.1 ++ (w.2 ++ w.3)) ++ tail) old (is_of (symbol.Aggregate a) w.0 first w.5) (cut old part tail w.0 (w.1 ++ (w.2 ++ w.3)) e w.4) in
    let never : ⊥ = cc in
    never

listed_first : (old used rest : List Lexeme) (xs : List Item) → old ≡ used ++ rest → AreJoined symbol.Comma IsItem used xs → first_symbol old ≢ Some symbol.Star
listed_first old used rest [] e w h = absurd w
listed_first old used rest (x ∷ xs) e w h =
    let t = split symbol.Comma IsItem used x xs w in
    item_first old t.part (t.tail ++ rest) x (cut old used rest t.part t.tail e t.parts) t.is h

pub all_read : (old new : List Lexeme) (star : Token) → first_symbol old ≡ Some symbol.Star → Advances old star new
    → Reads IsSelection (symbol.Comma ∷ []) old (All star) new
all_read old new star f a used rest (All x) e w end =
    let s = advance_token symbol.Star used rest old x star new a w e in
    (ap All s.0, s.1)
all_read old new star f a used rest (Listed items) e w end = absurd (listed_first old used rest items e w f)

pub filter_reads : (n : ℕ) (old a new : List Lexeme) (x : Shape) → Accepts symbol.Where old true a → Reads (IsCondition n) (symbol.Or ∷ symbol.And ∷ []) a x new
    → Reads (IsOptional (IsFilter n)) (symbol.Where ∷ symbol.Or ∷ symbol.And ∷ []) old (Some x) new
filter_reads n old a new x A r used rest None e w end =
    let at : old ≡ rest = e ∙ ap (λ (u : List Lexeme). u ++ rest) w in
    let bad = A.stays (λ h. end.0 (ap first_symbol (sym at) ∙ h)) in
    let never : ⊥ = cc in
    absurd never
filter_reads n old a new x A r used rest (Some c) e w end =
    let s1 = accept_is symbol.Where w.0 (w.1 ++ rest) old true a A w.3 (cut old used rest w.0 w.1 e w.2) in
    let s2 = r w.1 rest c s1.1 w.4 end.1 in
    (ap Some s2.0, s2.1)

group_reads : (old a b new : List Lexeme) (names : List Token) (by : Token) → Accepts symbol.Group old true a → Advances a by b
    → Reads (AreJoined symbol.Comma (IsToken symbol.Name)) (symbol.Comma ∷ []) b names new → Reads (AreListedBy symbol.Group (IsToken symbol.Name)) (symbol.Group ∷ symbol.Comma ∷ []) old names new
group_reads old a b new names by A B r used rest [] e w end =
    let at : old ≡ rest = e ∙ ap (λ (u : List Lexeme). u ++ rest) w in
    let bad = A.stays (λ h. end.0 (ap first_symbol (sym at) ∙ h)) in
    let never : ⊥ = cc in
    absurd never
group_reads old a b new names by A B r used rest (x ∷ xs) e w end =
    let s1 = accept_is symbol.Group w.0 ((w.1 ++ w.2) ++ rest) old true a A w.4 (cut old used rest w.0 (w.1 ++ w.2) e w.3) in
    let s2 = advance_is symbol.By w.1 (w.2 ++ rest) a by b B w.5 (cut a (w.1 ++ w.2) rest w.1 w.2 s1.1 refl) in
    r w.2 rest (x ∷ xs) s2 w.6 end.1

order_reads : (old a b new : List Lexeme) (keys : List OrderKey) (by : Token) → Accepts symbol.Order old true a → Advances a by b
    → Reads (AreJoined symbol.Comma IsKey) (symbol.Comma ∷ symbol.Descending ∷ symbol.Ascending ∷ []) b keys new
    → Reads (AreListedBy symbol.Order IsKey) (symbol.Order ∷ symbol.Comma ∷ symbol.Descending ∷ symbol.Ascending ∷ []) old keys new
order_reads old a b new keys by A B r used rest [] e w end =
    let at : old ≡ rest = e ∙ ap (λ (u : List Lexeme). u ++ rest) w in
    let bad = A.stays (λ h. end.0 (ap first_symbol (sym at) ∙ h)) in
    let never : ⊥ = cc in
    absurd never
order_reads old a b new keys by A B r used rest (x ∷ xs) e w end =
    let s1 = accept_is symbol.Order w.0 ((w.1 ++ w.2) ++ rest) old true a A w.4 (cut old used rest w.0 (w.1 ++ w.2) e w.3) in
    let s2 = advance_is symbol.By w.1 (w.2 ++ rest) a by b B w.5 (cut a (w.1 ++ w.2) rest w.1 w.2 s1.1 refl) in
    r w.2 rest (x ∷ xs) s2 w.6 end.1

-- the same of an answer that may be an error
pub group_ok : {V E : Type 0} (r : Result V E) (items : V → List Token) (old a b new : List Lexeme) (by : Token) → Accepts symbol.Group old true a → Advances a by b
    → IfOk r (λ v. Reads (AreJoined symbol.Comma (IsToken symbol.Name)) (symbol.Comma ∷ []) b (items v) new)
    → IfOk r (λ v. Reads (AreListedBy symbol.Group (IsToken symbol.Name)) (symbol.Group ∷ symbol.Comma ∷ []) old (items v) new)
group_ok (Ok v) items old a b new by A B h = group_reads old a b new (items v) by A B h
group_ok (Err e) items old a b new by A B h = tt

pub order_ok : {V E : Type 0} (r : Result V E) (items : V → List OrderKey) (old a b new : List Lexeme) (by : Token) → Accepts symbol.Order old true a → Advances a by b
    → IfOk r (λ v. Reads (AreJoined symbol.Comma IsKey) (symbol.Comma ∷ symbol.Descending ∷ symbol.Ascending ∷ []) b (items v) new)
    → IfOk r (λ v. Reads (AreListedBy symbol.Order IsKey) (symbol.Order ∷ symbol.Comma ∷ symbol.Descending ∷ symbol.Ascending ∷ []) old (items v) new)
order_ok (Ok v) items old a b new by A B h = order_reads old a b new (items v) by A B h
order_ok (Err e) items old a b new by A B h = tt
