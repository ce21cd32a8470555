-- What is true of each statement that is accepted.
use Rattle.std.proofs.Common.{◌≡◌, ◌≤◌, ℕ, zero, suc, pos, neg_ℤ, Bool, true, false, List, [], ◌∷◌, ◌++◌, length, map, drop, Option, Some, None, IfSome, Contains, refl, sym, ap, subst, ◌∙◌, inl, inr, arith, rules, if◌then◌else◌, slice_get}
use Rattle.std.proofs.Math.Nat.{max-le}
use Rattle.std.proofs.lemmas.Int.{ints}
use Rattle.std.proofs.lemmas.List.{length-append, length-map}
use Rattle.std.proofs.lemmas.List.Elements.{All-cons, All-head, All-map, All-nil, All-tail, All-weaker}
use Rattle.std.proofs.lemmas.List.FromFn.{length-enumerate_from}
use Rattle.std.specs.List.{All, fold, position_from}
use Rattle.std.specs.Option.{option_map}
use Rattle.std.specs.Str.{bytes_eq}
use Rattle.ub_lexer.specs.Tokens.{text_of}
use Rattle.ub_lexer.specs.declared.token.Token.{Token}
use Rattle.ub_query.proofs.Laws.{contains_map, contains_from_map}
use Rattle.ub_query.specs.Posed.{IsOver, IsLiteral, AreLiterals, IsPosedCondition, IsPosed, IsGrouped, greatest_number, nesting, comparisons as count, IsAggregate as IsTaken}
use Rattle.ub_query.specs.contracts.query.ItemPartialEq.TheImpl.{eq-value}
use Rattle.ub_query.specs.declared.query.Item.{Item as Asked}
use Rattle.ub_query.specs.declared.query.SortKey.{SortKey}
use Rattle.ub_syntax.specs.Grammar.{Lexeme, AreJoined, IsChain, IsComparison, IsDisjunction, IsOperand, IsOptional, IsFilter, IsSelection}
use Rattle.ub_syntax.specs.Limits.{compared, comparisons, first_token, key_items, listed, past_limits}
use Rattle.ub_syntax.specs.Tree.{Select, Shape, both, either, neither, compares, between}
use Rattle.ub_syntax.specs.declared.symbol.Symbol.{Symbol}
use Rattle.ub_syntax.specs.declared.symbol.Symbol.TheVariants as symbol
use Rattle.ub_syntax.specs.declared.syntax.Item.{Item}
use Rattle.ub_syntax.specs.declared.syntax.Item.TheVariants.{Column, Count, Aggregate}
use Rattle.ub_syntax.specs.declared.syntax.OrderKey.{OrderKey}
use Rattle.ub_syntax.specs.declared.syntax.Selection.{Selection}
use Rattle.ub_syntax.specs.declared.syntax.Selection.TheVariants.{All as Star, Listed}
use Rattle.ub_parser.specs.Known.{IsAskedOver, IsKnown}
use Rattle.ub_parser.specs.Refusals.{IsFirst, IsMisfit, IsNotGrouped, IsUngrouped, IsUnselected}
use Rattle.ub_parser.specs.Sense.{column_of, item_of, items_of, key_of, number_of, place_of, sense_of, shape_of}
use Rattle.ub_parser.specs.Spans.{IsNumber}
use Rattle.ub_parser.specs.declared.fault.SqlFault.{SqlFault}
use Rattle.ub_parser.specs.declared.fault.SqlFault.TheVariants.{TooMany, NotGrouped, NotSelected}
use Rattle.ub_parser.proofs.Among.{Each}
use Rattle.ub_parser.proofs.GroupFacts.{groups_query, groups_syntax, spelled_item}
use Rattle.ub_parser.proofs.MisfitFacts.{stable_at}
use Rattle.ub_table.specs.declared.schema.Schema.{Schema}

-- lists of which nothing is past a limit
few_left : {A : Type 0} (n : ℕ) (xs : List A) → drop n xs ≡ [] → length xs ≤ n
few_left zero [] e = omega arith
few_left zero (x ∷ xs) e = cc
few_left (suc n) [] e = omega arith
few_left (suc n) (x ∷ xs) e = let h = few_left n xs e in omega arith

left_empty : {A : Type 0} (xs ys : List A) → xs ++ ys ≡ [] → xs ≡ []
left_empty [] ys e = refl
left_empty (x ∷ xs) ys e = cc

right_empty : {A : Type 0} (xs ys : List A) → xs ++ ys ≡ [] → ys ≡ []
right_empty [] ys e = e
right_empty (x ∷ xs) ys e = cc

few_images : {A B : Type 0} (f : A → B) (n : ℕ) (xs : List A) → drop n (map f xs) ≡ [] → length xs ≤ n
few_images f n xs e = rw length-map at (few_left n (map f xs) e)

drop_images : {A B : Type 0} (f : A → B) (n : ℕ) (xs : List A) → drop n (map f xs) ≡ [] → drop n xs ≡ []
drop_images f zero [] e = refl
drop_images f zero (x ∷ xs) e = cc
drop_images f (suc n) [] e = refl
drop_images f (suc n) (x ∷ xs) e = drop_images f n xs e

-- where there is no first thing of which P holds, it holds of none
none_holds : {A : Type 0} (P : A → Type 0) (xs : List A) → ((x : A) → ¬ IsFirst P xs x) → All (λ x. ¬ P x) xs
none_holds P [] h = All-nil (λ x. ¬ P x)
none_holds P (x ∷ xs) h =
    let here : ¬ P x = λ p. h x ([], xs, refl, All-nil (λ y. ¬ P y), p) in
    All-cons (λ x. ¬ P x) x xs here
    (none_holds P xs (λ y first. h y (x ∷ first.0, first.1, ap (λ (ys : List _). x ∷ ys) first.2, All-cons (λ y. ¬ P y) x first.0 here first.3, first.4)))

-- a number that may be written, with or without a minus
literal_fits : (b : Bool) (n : ℕ) → n ≤ greatest_number → IsLiteral (if b then neg_ℤ (pos n) else pos n)
literal_fits true n h = (omega (arith, ints), omega (arith, ints))
literal_fits false n h = (omega (arith, ints), omega (arith, ints))

module _ (source : List ℕ) (schema : Schema) where
  are_literals : (c : Shape) → IsKnown source schema c → AreLiterals (shape_of source schema c)
  are_literals (both a b) h = (are_literals a h.0, are_literals b h.1)
  are_literals (either a b) h = (are_literals a h.0, are_literals b h.1)
  are_literals (neither a) h = are_literals a h
  are_literals (compares name operator v) h = literal_fits v.is_negative (number_of source v.digits) h.1.1
  are_literals (between name low high) h =
      (literal_fits low.is_negative (number_of source low.digits) h.1.1, literal_fits high.is_negative (number_of source high.digits) h.2.1)

  count_is : (c : Shape) → count (shape_of source schema c) ≡ length (compared c)
  count_is (both a b) = let h = count_is a in let k = count_is b in rw (length-append (compared a) (compared b), h, k) refl
  count_is (either a b) = let h = count_is a in let k = count_is b in rw (length-append (compared a) (compared b), h, k) refl
  count_is (neither a) = count_is a
  count_is (compares name operator v) = refl
  count_is (between name low high) = refl

  -- at most so many NOTs stand round a comparison
  abbrev IsShallow : ℕ → Shape → Type 0
  IsShallow n c = nesting (shape_of source schema c) ≤ n

  each_joined : (n : ℕ) (s : Symbol) (P : List Lexeme → Shape → Type 0) → ((ls : List Lexeme) (c : Shape) → P ls c → IsShallow n c) → (ls : List Lexeme) (cs : List Shape)
      → AreJoined s P ls cs → Each (IsShallow n) cs
  each_joined n s P part ls [] is = tt
  each_joined n s P part ls (c ∷ []) is = (part ls c is, tt)
  each_joined n s P part ls (c ∷ d ∷ cs) is = (part is.0 c is.4, each_joined n s P part is.2 (d ∷ cs) is.6)

  fold_shallow : (n : ℕ) (group : Shape → Shape → Shape) → ((a b : Shape) → IsShallow n a → IsShallow n b → IsShallow n (group a b)) → (first : Shape) (others : List Shape)
      → IsShallow n first → Each (IsShallow n) others → IsShallow n (fold group first others)
  fold_shallow n group closed first [] h hs = h
  fold_shallow n group closed first (c ∷ cs) h hs = fold_shallow n group closed (group first c) cs (closed first c h hs.0) hs.1

  chain_shallow : (n : ℕ) (s : Symbol) (group : Shape → Shape → Shape) → ((a b : Shape) → IsShallow n a → IsShallow n b → IsShallow n (group a b))
      → (P : List Lexeme → Shape → Type 0) → ((ls : List Lexeme) (c : Shape) → P ls c → IsShallow n c) → (ls : List Lexeme) (c : Shape) → IsChain s group P ls c → IsShallow n c
  chain_shallow n s group closed P part ls c is =
      let all = each_joined n s P part ls (is.0 ∷ is.1) is.2 in
      rw is.3 (fold_shallow n group closed is.0 is.1 all.0 all.1)

  disjunction_shallow : (n : ℕ) (P : List Lexeme → Shape → Type 0) → ((ls : List Lexeme) (c : Shape) → P ls c → IsShallow n c) → (ls : List Lexeme) (c : Shape)
      → IsDisjunction P ls c → IsShallow n c
  disjunction_shallow n P part ls c is =
      chain_shallow n symbol.Or either (λ a b h k. max-le h k) (IsChain symbol.And both P) (chain_shallow n symbol.And both (λ a b h k. max-le h k) P part) ls c is

  comparison_shallow : (n : ℕ) (ls : List Lexeme) (c : Shape) → IsComparison ls c → IsShallow n c
  comparison_shallow n ls (compares column operator value) is = omega arith
  comparison_shallow n ls (between column low high) is = omega arith
  comparison_shallow n ls (both a b) is = absurd is
  comparison_shallow n ls (either a b) is = absurd is
  comparison_shallow n ls (neither a) is = absurd is

  operand_shallow : (n : ℕ) (ls : List Lexeme) (c : Shape) → IsOperand n ls c → IsShallow n c
  operand_shallow zero ls c is = comparison_shallow zero ls c is
  operand_shallow (suc n) ls c (inl is) = comparison_shallow (suc n) ls c is
  operand_shallow (suc n) ls c (inr (inl is)) =
      let h = operand_shallow n is.1 is.2 is.5 in
      let deeper : IsShallow (suc n) (neither is.2) = omega arith in
      subst (λ (d : Shape). IsShallow (suc n) d) (sym is.6) deeper
  operand_shallow (suc n) ls c (inr (inr is)) =
      disjunction_shallow (suc n) (IsOperand n) (λ ls d part. let h = operand_shallow n ls d part in omega arith) is.1 c is.5

  filter_posed : (n : ℕ) (ls : List Lexeme) (f : Option Shape) → n ≤ 64 → IsOptional (IsFilter n) ls f → IfSome f (λ c. IsKnown source schema c)
      → IfSome (option_map (shape_of source schema) f) (λ c. IsOver (length schema.columns) c) → length (comparisons f) ≤ 64
      → IfSome (option_map (shape_of source schema) f) (λ c. IsPosedCondition (length schema.columns) c)
  filter_posed n ls None low is known over few = tt
  filter_posed n ls (Some c) low is known over few =
      let same = count_is c in
      let deep = disjunction_shallow n (IsOperand n) (operand_shallow n) is.1 c is.4 in
      record { over = over; literals = are_literals c known; few = omega arith; shallow = omega arith }

  -- a name is by which is grouped: so is its column
  grouped_column : (group : List Token) (text : List ℕ) → Contains (map (text_of source) group) text → Contains (map (column_of source schema) group) (place_of text schema.columns)
  grouped_column group text is =
      let found = contains_from_map (text_of source) group text is in
      subst (λ (place : ℕ). Contains (map (column_of source schema) group) place) (ap (λ (t : List ℕ). place_of t schema.columns) found.2)
      (contains_map (column_of source schema) group found.0 found.1)

  is_grouped : (s : Select) (x : Item) → ¬ IsUngrouped source s x → IsGrouped (map (column_of source schema) s.group) (item_of source schema x)
  is_grouped s (Column name) h =
      let texts = map (text_of source) s.group in
      let text = text_of source name in
      grouped_column s.group text (stable_at text texts (position_from (λ n. bytes_eq n text) 0 texts) refl h)
  is_grouped s (Count first) h = tt
  is_grouped s (Aggregate a first name) h = tt

item_same : (a b : Asked) → eq-value.it a b ≡ true → a ≡ b
item_same a b e = search rules

same_item : (a b : Asked) → a ≡ b → eq-value.it a b ≡ true
same_item a b e = search rules

-- whether an item is one of some is decided
not_later : (y x : Asked) (xs : List Asked) → ¬ (y ≡ x) → ¬ Contains xs x → Contains (y ∷ xs) x → ⊥
not_later y x xs other none (zero, lt, here) = other here
not_later y x xs other none (suc k, lt, there) = none (k, omega arith, there)

one_more : (y x : Asked) (xs : List Asked) (b : Bool) → eq-value.it y x ≡ b → (¬ (¬ Contains xs x) → Contains xs x) → ¬ (¬ Contains (y ∷ xs) x) → Contains (y ∷ xs) x
one_more y x xs true e others h = (zero, omega arith, item_same y x e)
one_more y x xs false e others h =
    let other : ¬ (y ≡ x) = λ same. let yes = same_item y x same in let clash : true ≡ false = sym yes ∙ e in cc in
    let there = others (λ none. h (not_later y x xs other none)) in
    (suc there.0, omega (arith, there.1), there.2)

stable_item : (xs : List Asked) (x : Asked) → ¬ (¬ Contains xs x) → Contains xs x
stable_item [] x h = absurd (h (λ is. let within = is.1 in absurd (omega arith)))
stable_item (y ∷ xs) x h = one_more y x xs (eq-value.it y x) refl (stable_item xs x) h

empty : {A : Type 0} (xs : List A) → ((x : A) → slice_get xs 0 ≡ Some x → ⊥) → xs ≡ []
empty [] h = refl
empty (x ∷ xs) h = absurd (h x refl)

module _ (source : List ℕ) (schema : Schema) (s : Select) (none : (fault : SqlFault) → ¬ IsMisfit source schema s fault) where
  none_past : past_limits s ≡ []
  none_past = empty (past_limits s) (λ t e. none (TooMany t.from) (t, e, refl))

  after_items : drop 64 (comparisons s.filter) ++ (drop 8 s.group ++ drop 8 (map first_token (key_items s.order))) ≡ []
  after_items = right_empty (drop 8 (map first_token (listed s.selection))) _ none_past

  few_comparisons : length (comparisons s.filter) ≤ 64
  few_comparisons = few_left 64 (comparisons s.filter) (left_empty (drop 64 (comparisons s.filter)) _ after_items)

  after_filter : drop 8 s.group ++ drop 8 (map first_token (key_items s.order)) ≡ []
  after_filter = right_empty (drop 64 (comparisons s.filter)) _ after_items

  few_groups : length (map (column_of source schema) s.group) ≤ 8
  few_groups = rw length-map (few_left 8 s.group (left_empty (drop 8 s.group) _ after_filter))

  few_keys : length (map (key_of source schema) s.order) ≤ 8
  few_keys =
      let few = few_images (λ (key : OrderKey). key.item) 8 s.order (drop_images first_token 8 (key_items s.order) (right_empty (drop 8 s.group) _ after_filter)) in
      rw length-map few

  few_listed : (selection : Selection) → drop 8 (map first_token (listed selection)) ≡ [] → length (items_of source schema selection) ≤ 8
  few_listed (Star star) e =
      let a = schema.counts.few_measures in
      let b = schema.counts.few_dims in
      rw (length-map, length-enumerate_from 0 schema.columns) (omega arith)
  few_listed (Listed items) e = rw length-map (few_images first_token 8 items e)

  pub some_columns : (star : Token) → 1 ≤ length (items_of source schema (Star star))
  some_columns star =
      let a = schema.counts.covers_dims in
      let b = schema.counts.some_dims in
      rw (length-map, length-enumerate_from 0 schema.columns) (omega arith)

  pub some_listed : (ls : List Lexeme) (selection : Selection) → IsSelection ls selection → 1 ≤ length (items_of source schema selection)
  some_listed ls (Star star) is = some_columns star
  some_listed ls (Listed []) is = absurd is
  some_listed ls (Listed (x ∷ xs)) is = omega arith

  all_grouped : (selection : Selection) → ((t : Token) → ¬ IsNotGrouped source s selection t)
      → All (λ item. IsGrouped (map (column_of source schema) s.group) item) (items_of source schema selection)
  all_grouped (Star star) h = absurd (h star refl)
  all_grouped (Listed items) h =
      All-map (λ item. IsGrouped (map (column_of source schema) s.group) item) (item_of source schema) items
      (All-weaker (λ x. ¬ IsUngrouped source s x) (λ x. IsGrouped (map (column_of source schema) s.group) (item_of source schema x)) (is_grouped source schema s) items
      (none_holds (IsUngrouped source s) items (λ x first. h (first_token x) (x, first, refl))))

  keys_all : (P : Item → Type 0) (Q : SortKey → Type 0) → ((key : OrderKey) → P key.item → Q (key_of source schema key)) → (keys : List OrderKey) → All P (key_items keys)
      → All Q (map (key_of source schema) keys)
  keys_all P Q f [] h = All-nil Q
  keys_all P Q f (key ∷ keys) h =
      All-cons Q (key_of source schema key) (map (key_of source schema) keys) (f key (All-head P key.item (key_items keys) h))
      (keys_all P Q f keys (All-tail P key.item (key_items keys) h))

  selected_keys : All (λ key. ¬ IsUnselected source schema s key) (key_items s.order)
  selected_keys = none_holds (IsUnselected source schema s) (key_items s.order) (λ key first. none (NotSelected (first_token key).from) (key, first, refl))

  not_listed : (selection : Selection) (x : Asked) → ¬ Contains (items_of source schema selection) x → ¬ Contains (map (item_of source schema) (listed selection)) x
  not_listed (Star star) x h is = let within = is.1 in absurd (omega arith)
  not_listed (Listed items) x h is = h is

  limit_fits : (limit : Option Token) → IfSome limit (λ t. IsNumber source t) → IfSome (option_map (number_of source) limit) (λ n. n ≤ greatest_number)
  limit_fits None h = tt
  limit_fits (Some t) h = h.1

  pub posed : (ls : List Lexeme) → IsOptional (IsFilter 64) ls s.filter → 1 ≤ length (items_of source schema s.selection) → IfSome s.filter (λ c. IsKnown source schema c) → IfSome s.limit (λ t. IsNumber source t)
      → IsAskedOver (length schema.columns) (sense_of source schema s) → IsPosed (length schema.columns) (sense_of source schema s)
  posed ls filter_is some known number over = record {
    items = over.items;
    some_items = some;
    few_items = few_listed s.selection (left_empty (drop 8 (map first_token (listed s.selection))) _ none_past);
    filter = filter_posed source schema 64 ls s.filter (omega arith) filter_is known over.filter few_comparisons;
    group = over.group;
    few_groups = few_groups;
    order = over.order;
    few_keys = few_keys;
    limit = limit_fits s.limit number;
    grouped = λ query. all_grouped s.selection (λ t h. none (NotGrouped t.from) (groups_syntax source schema s query, t, h, refl));
    selected = λ query.
        keys_all (λ key. ¬ IsUnselected source schema s key) (λ key. Contains (items_of source schema s.selection) key.item)
        (λ key h. stable_item (items_of source schema s.selection) (item_of source schema key.item)
        (λ no. h (inl (groups_syntax source schema s query, not_listed s.selection (item_of source schema key.item) no)))) s.order selected_keys;
    plain = λ query.
        keys_all (λ key. ¬ IsUnselected source schema s key) (λ key. ¬ IsTaken key.item)
        (λ key h taken. h (inr ((λ grouping. query (groups_query source schema s grouping)), spelled_item source schema key.item taken))) s.order selected_keys;
  }
