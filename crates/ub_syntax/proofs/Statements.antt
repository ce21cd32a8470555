-- How a whole SELECT is read.
use Rattle.std.proofs.Common.{◌≡◌, ◌≢◌, ◌⊎◌, inl, inr, ℕ, Bool, List, [], ◌∷◌, ◌++◌, Option, Some, None, refl, sym, ap, ◌∙◌}
use Rattle.std.proofs.lemmas.List.{append-nil}
use Rattle.ub_lexer.specs.declared.token.Token.{Token}
use Rattle.ub_syntax.specs.Grammar.{Lexeme, IsToken, IsSelection, IsKey, IsOptional, IsFilter, AreListedBy, IsLimit, IsExplain, IsSelect}
use Rattle.ub_syntax.specs.Reading.{first_symbol, NotFirst, Reads, Advances, Accepts}
use Rattle.ub_syntax.specs.Tree.{Shape, Select}
use Rattle.ub_syntax.specs.declared.symbol.Symbol.{Symbol}
use Rattle.ub_syntax.specs.declared.symbol.Symbol.TheVariants as symbol
use Rattle.ub_syntax.specs.declared.syntax.OrderKey.{OrderKey}
use Rattle.ub_syntax.specs.declared.syntax.Selection.{Selection}
use Rattle.ub_syntax.proofs.Parts.{cut, first_is, advance_token, advance_is, accept_is}

-- the lexemes begin with one of these symbols, or there are none
abbrev Starts : List Symbol → List Lexeme → Type 0
Starts [] ls = first_symbol ls ≡ None
Starts (s ∷ ss) ls = (first_symbol ls ≡ Some s) ⊎ Starts ss ls

limit_starts : (ls : List Lexeme) (o : Option Token) → IsOptional IsLimit ls o → Starts (symbol.Limit ∷ []) ls
limit_starts ls None w = inr (ap first_symbol w)
limit_starts ls (Some t) w = inl (first_is symbol.Limit w.0 w.1 ls w.3 w.2)

order_starts : (order limit : List Lexeme) (keys : List OrderKey) → AreListedBy symbol.Order IsKey order keys → Starts (symbol.Limit ∷ []) limit
    → Starts (symbol.Order ∷ symbol.Limit ∷ []) (order ++ limit)
order_starts order limit [] w h = rw w (inr h)
order_starts order limit (k ∷ ks) w h =
    inl (first_is symbol.Order w.0 ((w.1 ++ w.2) ++ limit) (order ++ limit) w.4 (cut (order ++ limit) order limit w.0 (w.1 ++ w.2) refl w.3))

group_starts : (group rest : List Lexeme) (names : List Token) → AreListedBy symbol.Group (IsToken symbol.Name) group names → Starts (symbol.Order ∷ symbol.Limit ∷ []) rest
    → Starts (symbol.Group ∷ symbol.Order ∷ symbol.Limit ∷ []) (group ++ rest)
group_starts group rest [] w h = rw w (inr h)
group_starts group rest (n ∷ ns) w h =
    inl (first_is symbol.Group w.0 ((w.1 ++ w.2) ++ rest) (group ++ rest) w.4 (cut (group ++ rest) group rest w.0 (w.1 ++ w.2) refl w.3))

after_order : (ls : List Lexeme) → Starts (symbol.Limit ∷ []) ls → NotFirst (symbol.Order ∷ symbol.Comma ∷ symbol.Descending ∷ symbol.Ascending ∷ []) ls
after_order ls (inl h) = ((λ k. cc), ((λ k. cc), ((λ k. cc), ((λ k. cc), tt))))
after_order ls (inr h) = ((λ k. cc), ((λ k. cc), ((λ k. cc), ((λ k. cc), tt))))

after_group : (ls : List Lexeme) → Starts (symbol.Order ∷ symbol.Limit ∷ []) ls → NotFirst (symbol.Group ∷ symbol.Comma ∷ []) ls
after_group ls (inl h) = ((λ k. cc), ((λ k. cc), tt))
after_group ls (inr (inl h)) = ((λ k. cc), ((λ k. cc), tt))
after_group ls (inr (inr h)) = ((λ k. cc), ((λ k. cc), tt))

after_filter : (ls : List Lexeme) → Starts (symbol.Group ∷ symbol.Order ∷ symbol.Limit ∷ []) ls → NotFirst (symbol.Where ∷ symbol.Or ∷ symbol.And ∷ []) ls
after_filter ls (inl h) = ((λ k. cc), ((λ k. cc), ((λ k. cc), tt)))
after_filter ls (inr (inl h)) = ((λ k. cc), ((λ k. cc), ((λ k. cc), tt)))
after_filter ls (inr (inr (inl h))) = ((λ k. cc), ((λ k. cc), ((λ k. cc), tt)))
after_filter ls (inr (inr (inr h))) = ((λ k. cc), ((λ k. cc), ((λ k. cc), tt)))

explain_reads : (old explain rest new : List Lexeme) (b is_explained : Bool) → Accepts symbol.Explain old b new → IsExplain explain is_explained
    → old ≡ explain ++ rest → first_symbol rest ≡ Some symbol.Select → (b ≡ is_explained) × (new ≡ rest)
explain_reads old explain rest new b is_explained a (inl w) e f =
    let at : old ≡ rest = e ∙ ap (λ (u : List Lexeme). u ++ rest) w.1 in
    let g : first_symbol old ≡ Some symbol.Select = ap first_symbol at ∙ f in
    let s = a.stays (λ h. cc) in
    (s.0 ∙ sym w.0, s.1 ∙ at)
explain_reads old explain rest new b is_explained a (inr w) e f =
    let s = accept_is symbol.Explain explain rest old b new a w.1 e in
    (s.0 ∙ sym w.0, s.1)

same_select : (a : Bool) (b : Selection) (c : Token) (d : Option Shape) (e : List Token) (f : List OrderKey) (g : Option Token) (s : Select)
    → a ≡ s.is_explained → b ≡ s.selection → c ≡ s.table → d ≡ s.filter → e ≡ s.group → f ≡ s.order → g ≡ s.limit
    → ◌≡◌ {A = Select} (record { is_explained = a; selection = b; table = c; filter = d; group = e; order = f; limit = g }) s
same_select a b c d e f g s p q r t u v w = rw (p, q, r, t, u, v, w) refl

pub select_reads : (n : ℕ) (old a b c d e f g h new : List Lexeme) (is_explained : Bool) (select from table : Token)
    (selection : Selection) (filter : Option Shape) (group : List Token) (order : List OrderKey) (limit : Option Token)
    → Accepts symbol.Explain old is_explained a → Advances a select b → Reads IsSelection (symbol.Comma ∷ []) b selection c
    → Advances c from d → Advances d table e
    → Reads (IsOptional (IsFilter n)) (symbol.Where ∷ symbol.Or ∷ symbol.And ∷ []) e filter f
    → Reads (AreListedBy symbol.Group (IsToken symbol.Name)) (symbol.Group ∷ symbol.Comma ∷ []) f group g
    → Reads (AreListedBy symbol.Order IsKey) (symbol.Order ∷ symbol.Comma ∷ symbol.Descending ∷ symbol.Ascending ∷ []) g order h
    → Reads (IsOptional IsLimit) (symbol.Limit ∷ []) h limit new
    → (s : Select) → IsSelect n old s
    → ◌≡◌ {A = Select} (record { is_explained = is_explained; selection = selection; table = table; filter = filter; group = group; order = order; limit = limit }) s
select_reads n old a b c d e f g h new is_explained select from table selection filter group order limit E A S B C F G O L s is =
    let after_name : List Lexeme = is.filter ++ (is.group ++ (is.order ++ is.limit)) in
    let after_items : List Lexeme = is.from ++ (is.name ++ after_name) in
    let first = first_is symbol.Select is.select (is.items ++ after_items) _ is.select_is refl in
    let s1 = explain_reads old is.explain (is.select ++ (is.items ++ after_items)) a is_explained s.is_explained E is.explain_is is.parts first in
    let s2 = advance_is symbol.Select is.select (is.items ++ after_items) a select b A is.select_is s1.1 in
    let from_first = first_is symbol.From is.from (is.name ++ after_name) after_items is.from_is refl in
    let no_comma : first_symbol after_items ≢ Some symbol.Comma = λ k. cc in
    let s3 = S is.items after_items s.selection s2 is.items_are (no_comma, tt) in
    let s4 = advance_is symbol.From is.from (is.name ++ after_name) c from d B is.from_is s3.1 in
    let s5 = advance_token symbol.Name is.name after_name d s.table table e C is.name_is s4 in
    let limits = limit_starts is.limit s.limit is.limit_is in
    let orders = order_starts is.order is.limit s.order is.order_is limits in
    let groups = group_starts is.group (is.order ++ is.limit) s.group is.group_is orders in
    let s6 = F is.filter (is.group ++ (is.order ++ is.limit)) s.filter s5.1 is.filter_is (after_filter _ groups) in
    let s7 = G is.group (is.order ++ is.limit) s.group s6.1 is.group_is (after_group _ orders) in
    let s8 = O is.order is.limit s.order s7.1 is.order_is (after_order _ limits) in
    let s9 = L is.limit [] s.limit (s8.1 ∙ sym (append-nil is.limit)) is.limit_is ((λ k. cc), tt) in
    same_select is_explained selection table filter group order limit s s1.0 s3.0 s5.0 s6.0 s7.0 s8.0 s9.0
