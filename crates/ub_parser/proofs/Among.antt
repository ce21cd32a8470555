-- The names and numbers of a statement's syntax are tokens of the statement.
use Rattle.std.proofs.Common.{◌≡◌, ℕ, zero, suc, List, [], ◌∷◌, ◌++◌, Option, Some, None, All, refl, arith, inl, inr}
use Rattle.std.proofs.lemmas.List.Elements.{All-nil, All-cons, All-append}
use Rattle.std.specs.List.{flat_map, fold}
use Rattle.std.specs.Option.{option_to_list}
use Rattle.ub_lexer.specs.declared.token.Token.{Token}
use Rattle.ub_syntax.specs.Grammar.{Lexeme, symbol_of, IsToken, AreJoined, IsChain, IsOptional, IsLiteral, IsComparison, IsDisjunction, IsOperand, IsItem, IsSelection, IsKey, IsFilter, AreListedBy, IsLimit, IsSelect, IsValue, IsInsert, IsDelete}
use Rattle.ub_syntax.specs.Tree.{Select, Shape, both, either, neither, compares, between}
use Rattle.ub_syntax.specs.declared.symbol.Symbol.{Symbol}
use Rattle.ub_syntax.specs.declared.symbol.Symbol.TheVariants as symbol
use Rattle.ub_syntax.specs.declared.syntax.Insertion.{Insertion}
use Rattle.ub_syntax.specs.declared.syntax.Item.{Item}
use Rattle.ub_syntax.specs.declared.syntax.Item.TheVariants.{Column, Count, Aggregate}
use Rattle.ub_syntax.specs.declared.syntax.Literal.{Literal}
use Rattle.ub_syntax.specs.declared.syntax.OrderKey.{OrderKey}
use Rattle.ub_syntax.specs.declared.syntax.Selection.{Selection}
use Rattle.ub_syntax.specs.declared.syntax.Selection.TheVariants.{All as Star, Listed}
use Rattle.ub_syntax.specs.declared.syntax.Value.{Value}
use Rattle.ub_syntax.specs.Limits.{listed, compared, comparisons, key_items}
use Rattle.ub_parser.specs.Refusals.{item_names, names}
use Rattle.ub_parser.specs.Spans.{compared_numbers, filter_numbers, numbers}

-- Q holds of each thing
abbrev pub Each : {A : Type 0} → (A → Type 0) → List A → Type 0
Each Q [] = Unit {0}
Each Q (x ∷ xs) = Q x × Each Q xs

each_front : {A : Type 0} (Q : A → Type 0) (a b : List A) → Each Q (a ++ b) → Each Q a
each_front Q [] b h = tt
each_front Q (x ∷ a) b h = (h.0, each_front Q a b h.1)

each_back : {A : Type 0} (Q : A → Type 0) (a b : List A) → Each Q (a ++ b) → Each Q b
each_back Q [] b h = h
each_back Q (x ∷ a) b h = each_back Q a b h.1

all_one : {A : Type 0} (P : A → Type 0) (x : A) → P x → All P (x ∷ [])
all_one P x p zero d h = p
all_one P x p (suc k) d h = absurd (omega arith)

-- of each lexeme: a name has P, a number has R
abbrev pub Good : (Token → Type 0) → (Token → Type 0) → Lexeme → Type 0
Good P R l = (symbol_of l ≡ symbol.Name → P l.token) × (symbol_of l ≡ symbol.Number → R l.token)

module _ (P R : Token → Type 0) where
  abbrev pub Are : List Lexeme → Type 0
  Are ls = Each (Good P R) ls

  name_good : (ls : List Lexeme) (t : Token) → IsToken symbol.Name ls t → Are ls → P t
  name_good ls t is good = let g = rw is.1 at good in let p = g.0.0 is.2 in rw is.3 at p

  number_good : (ls : List Lexeme) (t : Token) → IsToken symbol.Number ls t → Are ls → R t
  number_good ls t is good = let g = rw is.1 at good in let p = g.0.1 is.2 in rw is.3 at p

  front : (a b ls : List Lexeme) → ls ≡ a ++ b → Are ls → Are a
  front a b ls e good = each_front (Good P R) a b (rw e at good)

  back : (a b ls : List Lexeme) → ls ≡ a ++ b → Are ls → Are b
  back a b ls e good = each_back (Good P R) a b (rw e at good)

  literal_good : (ls : List Lexeme) (v : Literal) → IsLiteral ls v → Are ls → R v.digits
  literal_good ls v (inl is) good = number_good ls v.digits is.1 good
  literal_good ls v (inr is) good = number_good is.2 v.digits is.5 (back is.1 is.2 ls is.3 good)

  -- the names of a condition have P, its numbers R
  abbrev pub IsGood : Shape → Type 0
  IsGood c = All P (compared c) × All R (compared_numbers c)

  comparison_good : (ls : List Lexeme) (c : Shape) → IsComparison ls c → Are ls → IsGood c
  comparison_good ls (compares column operator value) is good =
      let rest = back is.0 (is.1 ++ is.2) ls is.3 good in
      let last = back is.1 is.2 (is.1 ++ is.2) refl rest in
      (all_one P column (name_good is.0 column is.4 (front is.0 (is.1 ++ is.2) ls is.3 good)), all_one R value.digits (literal_good is.2 value is.6 last))
  comparison_good ls (between column low high) is good =
      let a = back is.0 (is.1 ++ (is.2 ++ (is.3 ++ is.4))) ls is.5 good in
      let b = back is.1 (is.2 ++ (is.3 ++ is.4)) _ refl a in
      let c = back is.2 (is.3 ++ is.4) _ refl b in
      let d = back is.3 is.4 _ refl c in
      let first = literal_good is.2 low is.8 (front is.2 (is.3 ++ is.4) _ refl b) in
      let second = literal_good is.4 high is.10 d in
      (all_one P column (name_good is.0 column is.6 (front is.0 _ ls is.5 good)), All-append R (low.digits ∷ []) (high.digits ∷ []) (all_one R low.digits first) (all_one R high.digits second))
  comparison_good ls (both a b) is good = absurd is
  comparison_good ls (either a b) is good = absurd is
  comparison_good ls (neither a) is good = absurd is

  joined_good : {A : Type 0} (H : A → Type 0) (s : Symbol) (Part : List Lexeme → A → Type 0) → ((ls : List Lexeme) (x : A) → Part ls x → Are ls → H x)
      → (ls : List Lexeme) (xs : List A) → AreJoined s Part ls xs → Are ls → Each H xs
  joined_good H s Part f ls [] is good = tt
  joined_good H s Part f ls (x ∷ []) is good = (f ls x is good, tt)
  joined_good H s Part f ls (x ∷ y ∷ xs) is good =
      let rest = back is.0 (is.1 ++ is.2) ls is.3 good in
      (f is.0 x is.4 (front is.0 (is.1 ++ is.2) ls is.3 good), joined_good H s Part f is.2 (y ∷ xs) is.6 (back is.1 is.2 _ refl rest))

  fold_good : (group : Shape → Shape → Shape) → ((a b : Shape) → IsGood a → IsGood b → IsGood (group a b)) → (first : Shape) (others : List Shape)
      → IsGood first → Each IsGood others → IsGood (fold group first others)
  fold_good group closed first [] h hs = h
  fold_good group closed first (x ∷ xs) h hs = fold_good group closed (group first x) xs (closed first x h hs.0) hs.1

  chain_good : (s : Symbol) (group : Shape → Shape → Shape) → ((a b : Shape) → IsGood a → IsGood b → IsGood (group a b)) → (Part : List Lexeme → Shape → Type 0)
      → ((ls : List Lexeme) (c : Shape) → Part ls c → Are ls → IsGood c) → (ls : List Lexeme) (c : Shape) → IsChain s group Part ls c → Are ls → IsGood c
  chain_good s group closed Part f ls c is good =
      let all = joined_good IsGood s Part f ls (is.0 ∷ is.1) is.2 good in
      rw is.3 (fold_good group closed is.0 is.1 all.0 all.1)

  both_good : (a b : Shape) → IsGood a → IsGood b → IsGood (both a b)
  both_good a b g h = (All-append P (compared a) (compared b) g.0 h.0, All-append R (compared_numbers a) (compared_numbers b) g.1 h.1)

  either_good : (a b : Shape) → IsGood a → IsGood b → IsGood (either a b)
  either_good a b g h = (All-append P (compared a) (compared b) g.0 h.0, All-append R (compared_numbers a) (compared_numbers b) g.1 h.1)

  disjunction_good : (Part : List Lexeme → Shape → Type 0) → ((ls : List Lexeme) (c : Shape) → Part ls c → Are ls → IsGood c)
      → (ls : List Lexeme) (c : Shape) → IsDisjunction Part ls c → Are ls → IsGood c
  disjunction_good Part f ls c is good =
      chain_good symbol.Or either either_good (IsChain symbol.And both Part) (chain_good symbol.And both both_good Part f) ls c is good

  operand_good : (n : ℕ) (ls : List Lexeme) (c : Shape) → IsOperand n ls c → Are ls → IsGood c
  operand_good zero ls c is good = comparison_good ls c is good
  operand_good (suc n) ls c (inl is) good = comparison_good ls c is good
  operand_good (suc n) ls c (inr (inl is)) good =
      let inner = operand_good n is.1 is.2 is.5 (back is.0 is.1 ls is.3 good) in
      rw is.6 (inner.0, inner.1)
  operand_good (suc n) ls c (inr (inr is)) good =
      let rest = back is.0 (is.1 ++ is.2) ls is.3 good in
      disjunction_good (IsOperand n) (operand_good n) is.1 c is.5 (front is.1 is.2 _ refl rest)

  abbrev pub HasGoodNames : Item → Type 0
  HasGoodNames item = All P (item_names item)

  item_good : (ls : List Lexeme) (item : Item) → IsItem ls item → Are ls → HasGoodNames item
  item_good ls (Column name) is good = all_one P name (name_good ls name is good)
  item_good ls (Count first) is good = All-nil P
  item_good ls (Aggregate aggregate first column) is good =
      let a = back is.0 (is.1 ++ (is.2 ++ is.3)) ls is.4 good in
      let b = back is.1 (is.2 ++ is.3) _ refl a in
      all_one P column (name_good is.2 column is.7 (front is.2 is.3 _ refl b))

  names_good : (items : List Item) → Each HasGoodNames items → All P (flat_map item_names items)
  names_good [] h = All-nil P
  names_good (item ∷ items) h = All-append P (item_names item) (flat_map item_names items) h.0 (names_good items h.1)

  key_good : (ls : List Lexeme) (key : OrderKey) → IsKey ls key → Are ls → HasGoodNames key.item
  key_good ls key is good = item_good is.0 key.item is.3 (front is.0 is.1 ls is.2 good)

  keys_good : (keys : List OrderKey) → Each (λ (key : OrderKey). HasGoodNames key.item) keys → Each HasGoodNames (key_items keys)
  keys_good [] h = tt
  keys_good (key ∷ keys) h = (h.0, keys_good keys h.1)

  tokens_good : (xs : List Token) → Each P xs → All P xs
  tokens_good [] h = All-nil P
  tokens_good (x ∷ xs) h = All-append P (x ∷ []) xs (all_one P x h.0) (tokens_good xs h.1)

  selection_good : (ls : List Lexeme) (s : Selection) → IsSelection ls s → Are ls → All P (flat_map item_names (listed s))
  selection_good ls (Star star) is good = All-nil P
  selection_good ls (Listed items) is good = names_good items (joined_good HasGoodNames symbol.Comma IsItem item_good ls items is good)

  filter_good : (n : ℕ) (ls : List Lexeme) (c : Option Shape) → IsOptional (IsFilter n) ls c → Are ls → All P (comparisons c) × All R (filter_numbers c)
  filter_good n ls None is good = (All-nil P, All-nil R)
  filter_good n ls (Some c) is good = disjunction_good (IsOperand n) (operand_good n) is.1 c is.4 (back is.0 is.1 ls is.2 good)

  group_good : (ls : List Lexeme) (group : List Token) → AreListedBy symbol.Group (IsToken symbol.Name) ls group → Are ls → All P group
  group_good ls [] is good = All-nil P
  group_good ls (name ∷ group) is good =
      let a = back is.0 (is.1 ++ is.2) ls is.3 good in
      tokens_good (name ∷ group) (joined_good P symbol.Comma (IsToken symbol.Name) name_good is.2 (name ∷ group) is.6 (back is.1 is.2 _ refl a))

  order_good : (ls : List Lexeme) (order : List OrderKey) → AreListedBy symbol.Order IsKey ls order → Are ls → All P (flat_map item_names (key_items order))
  order_good ls [] is good = All-nil P
  order_good ls (key ∷ order) is good =
      let a = back is.0 (is.1 ++ is.2) ls is.3 good in
      names_good (key_items (key ∷ order)) (keys_good (key ∷ order)
      (joined_good (λ (k : OrderKey). HasGoodNames k.item) symbol.Comma IsKey key_good is.2 (key ∷ order) is.6 (back is.1 is.2 _ refl a)))

  limit_good : (ls : List Lexeme) (limit : Option Token) → IsOptional IsLimit ls limit → Are ls → All R (option_to_list limit)
  limit_good ls None is good = All-nil R
  limit_good ls (Some number) is good = all_one R number (number_good is.1 number is.4 (back is.0 is.1 ls is.2 good))

  -- of a SELECT whose lexemes are good, the names have P, the table's too, and the numbers R
  pub select_good : (n : ℕ) (ls : List Lexeme) (s : Select) → IsSelect n ls s → Are ls → All P (names s) × All R (numbers s) × P s.table
  select_good n ls s is good =
      let a = back is.explain _ ls is.parts good in
      let b = back is.select _ _ refl a in
      let c = back is.items _ _ refl b in
      let d = back is.from _ _ refl c in
      let e = back is.name _ _ refl d in
      let f = back is.filter _ _ refl e in
      let g = back is.group _ _ refl f in
      let h = back is.order is.limit _ refl g in
      let items = selection_good is.items s.selection is.items_are (front is.items _ _ refl b) in
      let filter = filter_good n is.filter s.filter is.filter_is (front is.filter _ _ refl e) in
      let group = group_good is.group s.group is.group_is (front is.group _ _ refl f) in
      let order = order_good is.order s.order is.order_is (front is.order is.limit _ refl g) in
      let limit = limit_good is.limit s.limit is.limit_is h in (
        All-append P (flat_map item_names (listed s.selection)) _ items (All-append P (comparisons s.filter) _ filter.0 (All-append P s.group _ group order)),
        All-append R (filter_numbers s.filter) _ filter.1 limit,
        name_good is.name s.table is.name_is (front is.name _ _ refl d),
      )

  -- the same of a DELETE
  pub delete_good : (n : ℕ) (ls : List Lexeme) (s : Select) → IsDelete n ls s → Are ls → All P (names s) × All R (numbers s) × P s.table
  delete_good n ls s is good =
      let a = back is.delete _ ls is.parts good in
      let b = back is.from _ _ refl a in
      let c = back is.name is.filter _ refl b in
      let filter = filter_good n is.filter is.condition is.filter_is c in
      let table = name_good is.name is.table is.name_is (front is.name is.filter _ refl b) in
      rw is.rows (All-append P (comparisons is.condition) [] filter.0 (All-nil P), All-append R (filter_numbers is.condition) [] filter.1 (All-nil R), table)

  value_good : (ls : List Lexeme) (v : Value) → IsValue ls v → Are ls → R v.literal.digits
  value_good ls v is good = literal_good ls v.literal is.4 good

  values_good : (xs : List Value) → Each (λ (v : Value). R v.literal.digits) xs → All (λ (v : Value). R v.literal.digits) xs
  values_good [] h = All-nil (λ (v : Value). R v.literal.digits)
  values_good (x ∷ xs) h = All-cons (λ (v : Value). R v.literal.digits) x xs h.0 (values_good xs h.1)

  -- and of an INSERT, whose names are its table's alone
  pub insert_good : (ls : List Lexeme) (i : Insertion) → IsInsert ls i → Are ls → P i.table × All (λ v. R v.literal.digits) i.values
  insert_good ls i is good =
      let a = back is.insert _ ls is.parts good in
      let b = back is.into _ _ refl a in
      let c = back is.name _ _ refl b in
      let d = back is.word _ _ refl c in
      let e = back is.left _ _ refl d in (
        name_good is.name i.table is.name_is (front is.name _ _ refl b),
        values_good i.values (joined_good (λ (v : Value). R v.literal.digits) symbol.Comma IsValue value_good is.values i.values is.values_are (front is.values is.close _ refl e)),
      )
