-- Where a statement's names are columns, those of each of its parts are.
use Rattle.std.proofs.Common.{ℕ, List, [], ◌∷◌, ◌++◌, Option, Some, None, IfSome, Contains}
use Rattle.std.specs.List.{All, flat_map}
use Rattle.std.specs.Option.{option_to_list}
use Rattle.std.proofs.lemmas.List.Elements.{All-nil, All-cons, All-head, All-tail}
use Rattle.ub_lexer.specs.Tokens.{text_of}
use Rattle.ub_lexer.specs.declared.token.Token.{Token}
use Rattle.ub_syntax.specs.Tree.{Select, Shape, both, either, neither, compares, between}
use Rattle.ub_syntax.specs.declared.syntax.Item.{Item}
use Rattle.ub_syntax.specs.declared.syntax.OrderKey.{OrderKey}
use Rattle.ub_parser.specs.Known.{AreComparedWithin, IsColumn, IsKnown, IsKnownItem}
use Rattle.ub_syntax.specs.Limits.{comparisons, compared, key_items, listed}
use Rattle.ub_parser.specs.Refusals.{item_names, names}
use Rattle.ub_parser.specs.Spans.{AreWritten, IsNumber, IsWithin, compared_numbers, filter_numbers}
use Rattle.ub_table.specs.declared.schema.Schema.{Schema}

module _ {A : Type 0} (P : A → Type 0) where
  pub all_left : (xs ys : List A) → All P (xs ++ ys) → All P xs
  all_left [] ys h = All-nil P
  all_left (x ∷ xs) ys h = All-cons P x xs (All-head P x (xs ++ ys) h) (all_left xs ys (All-tail P x (xs ++ ys) h))

  pub all_right : (xs ys : List A) → All P (xs ++ ys) → All P ys
  all_right [] ys h = h
  all_right (x ∷ xs) ys h = all_right xs ys (All-tail P x (xs ++ ys) h)

module _ (P : Token → Type 0) where
  of_items : (items : List Item) → All P (flat_map item_names items) → All (λ item. All P (item_names item)) items
  of_items [] h = All-nil (λ item. All P (item_names item))
  of_items (item ∷ items) h =
      All-cons (λ item. All P (item_names item)) item items (all_left P (item_names item) (flat_map item_names items) h) (of_items items (all_right P (item_names item) (flat_map item_names items) h))

  of_keys : (keys : List OrderKey) → All P (flat_map item_names (key_items keys)) → All (λ key. All P (item_names key.item)) keys
  of_keys [] h = All-nil (λ (key : OrderKey). All P (item_names key.item))
  of_keys (key ∷ keys) h =
      All-cons (λ (key : OrderKey). All P (item_names key.item)) key keys (all_left P (item_names key.item) (flat_map item_names (key_items keys)) h)
      (of_keys keys (all_right P (item_names key.item) (flat_map item_names (key_items keys)) h))

  -- what holds of the names of a statement holds of those of each part
  pub names_of_items : (s : Select) → All P (names s) → All (λ item. All P (item_names item)) (listed s.selection)
  names_of_items s h = of_items (listed s.selection) (all_left P (flat_map item_names (listed s.selection)) _ h)

  after_items : (s : Select) → All P (names s) → All P (comparisons s.filter ++ (s.group ++ flat_map item_names (key_items s.order)))
  after_items s h = all_right P (flat_map item_names (listed s.selection)) _ h

  pub names_of_filter : (s : Select) → All P (names s) → All P (comparisons s.filter)
  names_of_filter s h = all_left P (comparisons s.filter) _ (after_items s h)

  after_filter : (s : Select) → All P (names s) → All P (s.group ++ flat_map item_names (key_items s.order))
  after_filter s h = all_right P (comparisons s.filter) _ (after_items s h)

  pub names_of_group : (s : Select) → All P (names s) → All P s.group
  names_of_group s h = all_left P s.group _ (after_filter s h)

  pub names_of_keys : (s : Select) → All P (names s) → All (λ key. All P (item_names key.item)) s.order
  names_of_keys s h = of_keys s.order (all_right P s.group _ (after_filter s h))

module _ (source : List ℕ) (schema : Schema) where
  of_condition : (c : Shape) → All (λ t. IsColumn source schema t) (compared c) → All (λ t. IsNumber source t) (compared_numbers c) → IsKnown source schema c
  of_condition (both a b) h n = (
    of_condition a (all_left (λ t. IsColumn source schema t) (compared a) (compared b) h) (all_left (λ t. IsNumber source t) (compared_numbers a) (compared_numbers b) n),
    of_condition b (all_right (λ t. IsColumn source schema t) (compared a) (compared b) h) (all_right (λ t. IsNumber source t) (compared_numbers a) (compared_numbers b) n),
  )
  of_condition (either a b) h n = (
    of_condition a (all_left (λ t. IsColumn source schema t) (compared a) (compared b) h) (all_left (λ t. IsNumber source t) (compared_numbers a) (compared_numbers b) n),
    of_condition b (all_right (λ t. IsColumn source schema t) (compared a) (compared b) h) (all_right (λ t. IsNumber source t) (compared_numbers a) (compared_numbers b) n),
  )
  of_condition (neither a) h n = of_condition a h n
  of_condition (compares name operator v) h n = (All-head (λ t. IsColumn source schema t) name [] h, All-head (λ t. IsNumber source t) v.digits [] n)
  of_condition (between name low high) h n = (
    All-head (λ t. IsColumn source schema t) name [] h,
    All-head (λ t. IsNumber source t) low.digits (high.digits ∷ []) n,
    All-head (λ t. IsNumber source t) high.digits [] (All-tail (λ t. IsNumber source t) low.digits (high.digits ∷ []) n),
  )

  of_filter : (filter : Option Shape) → All (λ t. IsColumn source schema t) (comparisons filter) → All (λ t. IsNumber source t) (filter_numbers filter)
      → IfSome filter (λ c. IsKnown source schema c)
  of_filter None h n = tt
  of_filter (Some c) h n = of_condition c h n

  of_limit : (limit : Option Token) → All (λ t. IsNumber source t) (option_to_list limit) → IfSome limit (λ t. IsNumber source t)
  of_limit None n = tt
  of_limit (Some t) n = All-head (λ t. IsNumber source t) t [] n

  -- names that lie in the source and are known are columns
  pub all_columns : (ts : List Token) → All (λ t. IsWithin source t) ts → All (λ t. Contains schema.columns (text_of source t)) ts → All (λ t. IsColumn source schema t) ts
  all_columns ts within known k d lt = (within k d lt, known k d lt)

  -- the names of a statement that is written and of which none is unknown
  pub are_columns : (s : Select) → AreWritten source s → All (λ name. Contains schema.columns (text_of source name)) (names s) → All (λ t. IsColumn source schema t) (names s)
  are_columns s written known = all_columns (names s) written.names_are known

  pub known_items : (s : Select) → All (λ t. IsColumn source schema t) (names s) → All (λ item. IsKnownItem source schema item) (listed s.selection)
  known_items s h = names_of_items (λ t. IsColumn source schema t) s h

  pub known_filter : (s : Select) → AreWritten source s → All (λ t. IsColumn source schema t) (names s) → IfSome s.filter (λ c. IsKnown source schema c)
  known_filter s written h =
      of_filter s.filter (names_of_filter (λ t. IsColumn source schema t) s h) (all_left (λ t. IsNumber source t) (filter_numbers s.filter) (option_to_list s.limit) written.numbers_are)

  pub known_group : (s : Select) → All (λ t. IsColumn source schema t) (names s) → All (λ t. IsColumn source schema t) s.group
  known_group s h = names_of_group (λ t. IsColumn source schema t) s h

  pub known_order : (s : Select) → All (λ t. IsColumn source schema t) (names s) → All (λ key. IsKnownItem source schema key.item) s.order
  known_order s h = names_of_keys (λ t. IsColumn source schema t) s h

  pub known_limit : (s : Select) → AreWritten source s → IfSome s.limit (λ t. IsNumber source t)
  known_limit s written = of_limit s.limit (all_right (λ t. IsNumber source t) (filter_numbers s.filter) (option_to_list s.limit) written.numbers_are)

-- where the names lie in the source, so do the columns of the comparisons
module _ (source : List ℕ) where
  within_condition : (c : Shape) → All (λ t. IsWithin source t) (compared c) → AreComparedWithin source c
  within_condition (both a b) h =
      (within_condition a (all_left (λ t. IsWithin source t) (compared a) (compared b) h), within_condition b (all_right (λ t. IsWithin source t) (compared a) (compared b) h))
  within_condition (either a b) h =
      (within_condition a (all_left (λ t. IsWithin source t) (compared a) (compared b) h), within_condition b (all_right (λ t. IsWithin source t) (compared a) (compared b) h))
  within_condition (neither a) h = within_condition a h
  within_condition (compares name operator v) h = All-head (λ t. IsWithin source t) name [] h
  within_condition (between name low high) h = All-head (λ t. IsWithin source t) name [] h

  pub within_filter : (filter : Option Shape) → All (λ t. IsWithin source t) (comparisons filter) → IfSome filter (λ c. AreComparedWithin source c)
  within_filter None h = tt
  within_filter (Some c) h = within_condition c h
