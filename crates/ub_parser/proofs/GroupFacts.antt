-- What is grouped by and selected, from what was found among the items.
use Rattle.std.proofs.Common.{◌≡◌, ◌≢◌, ◌↔◌, inl, inr, ◌≤◌, ℕ, Bool, true, false, not, IsTrue, List, [], ◌∷◌, map, length, take, Contains, refl, sym, ap, ◌∙◌, subst, take_all, arith}
use Rattle.std.specs.List.{All, enumerate_from}
use Rattle.std.proofs.lemmas.List.{map-append}
use Rattle.std.proofs.lemmas.List.Elements.{All-contains, All-head, All-map, All-same}
use Rattle.ub_lexer.specs.Tokens.{text_of}
use Rattle.ub_lexer.specs.declared.token.Token.{Token}
use Rattle.ub_query.proofs.Laws.{contains_map, contains_from_map}
use Rattle.ub_query.specs.Posed.{IsGroupQuery, IsAggregate as IsTaken}
use Rattle.ub_query.specs.declared.query.Item.{Item as Asked}
use Rattle.ub_query.specs.declared.query.Item.TheVariants as asked
use Rattle.ub_syntax.specs.Tree.{Select}
use Rattle.ub_syntax.specs.declared.syntax.Item.{Item}
use Rattle.ub_syntax.specs.declared.syntax.Item.TheVariants.{Column, Count, Aggregate}
use Rattle.ub_syntax.specs.declared.syntax.Selection.{Selection}
use Rattle.ub_syntax.specs.declared.syntax.Selection.TheVariants.{All as Star, Listed}
use Rattle.ub_syntax.specs.Limits.{first_token, listed}
use Rattle.ub_parser.specs.Refusals.{IsAggregate, IsFirst, IsGrouping, IsNotGrouped, IsUngrouped, IsUnselected}
use Rattle.ub_parser.specs.Sense.{column_of, item_of, items_of, sense_of}
use Rattle.ub_parser.proofs.FirstFacts.{fails}
use Rattle.ub_parser.proofs.KnownFacts.{all_right}
use Rattle.ub_table.specs.declared.schema.Schema.{Schema}

-- the contrary of a test
pub not_iff : (r : Bool) (P : Type 0) → (IsTrue r ↔ P) → IsTrue (not r) ↔ (¬ P)
not_iff true P tells = (λ t. absurd (let bad : false ≡ true = t in let no : ⊥ = cc in no), λ none. absurd (none (tells.0 refl)))
not_iff false P tells = (λ t. fails false P tells refl, λ none. refl)

-- where P holds of none of some things there is no first of which it holds
pub no_first : {A : Type 0} (P : A → Type 0) (xs : List A) (x : A) → All (λ y. ¬ P y) xs → ¬ IsFirst P xs x
no_first P xs x none (before, after, is, nothing, holds) =
    All-head (λ y. ¬ P y) x after (all_right (λ y. ¬ P y) before (x ∷ after) (subst (λ (ys : List _). All (λ y. ¬ P y) ys) is none)) holds

module _ {A B : Type 0} (f : A → B) where
  -- what none of some things gives is none of what they give
  pub no_image : (xs : List A) (i : ℕ) (y : B) → length xs ≤ i → All (λ x. f x ≢ y) (take i xs) → IsTrue false ↔ Contains (map f xs) y
  no_image xs i y le none =
      let whole : All (λ x. f x ≢ y) xs = All-same (λ x. f x ≢ y) xs (take i xs) (sym (take_all i xs le)) none in
      (λ t. absurd (let bad : false ≡ true = t in let no : ⊥ = cc in no), λ h. absurd (All-contains (λ z. z ≢ y) (map f xs) y (All-map (λ z. z ≢ y) f xs whole) h refl))

  pub first_image : (P : B → Type 0) (xs : List A) (x : A) → IsFirst (λ y. P (f y)) xs x → IsFirst P (map f xs) (f x)
  first_image P xs x (before, after, is, none, holds) =
      (map f before, map f after, ap (map f) is ∙ map-append f before (x ∷ after), All-map (λ y. ¬ P y) f before none, holds)

module _ (source : List ℕ) (s : Select) where
  pub ungrouped_iff : (item : Item) (name : Token) (group : List Token) (r : Bool) → item ≡ Column name → group ≡ s.group
      → (IsTrue r ↔ Contains (map (λ t. text_of source t) group) (text_of source name)) → IsTrue (not r) ↔ IsUngrouped source s item
  ungrouped_iff item name group r is same tells =
      rw (is, ← same) (not_iff r (Contains (map (λ t. text_of source t) group) (text_of source name)) tells)

  pub all_grouped : (selection : Selection) (items xs : List Item) → selection ≡ Listed items → xs ≡ items → All (λ item. ¬ IsUngrouped source s item) xs → (t : Token)
      → ¬ IsNotGrouped source s selection t
  all_grouped selection items xs is same none t h =
      let found : IsNotGrouped source s (Listed items) t = subst (λ (x : Selection). IsNotGrouped source s x t) is h in
      no_first (λ (item : Item). IsUngrouped source s item) items found.0 (subst (λ (ys : List Item). All (λ item. ¬ IsUngrouped source s item) ys) same none) found.1

  pub first_not_grouped : (selection : Selection) (items xs : List Item) (item : Item) (t : Token) → selection ≡ Listed items → xs ≡ items
      → IsFirst (λ item. IsUngrouped source s item) xs item → t ≡ first_token item → IsNotGrouped source s selection t
  first_not_grouped selection items xs item t is same first at =
      subst (λ (x : Selection). IsNotGrouped source s x t) (sym is) (item, subst (λ (ys : List Item). IsFirst (λ item. IsUngrouped source s item) ys item) same first, at)

module _ (source : List ℕ) (schema : Schema) (s : Select) where
  pub unselected_grouping : (key : Item) (items : List Item) (r : Bool) → IsGrouping s → items ≡ listed s.selection
      → (IsTrue r ↔ Contains (map (λ item. item_of source schema item) items) (item_of source schema key)) → IsTrue (not r) ↔ IsUnselected source schema s key
  unselected_grouping key items r grouping same tells =
      let said : IsTrue (not r) ↔ (¬ Contains (map (λ item. item_of source schema item) (listed s.selection)) (item_of source schema key)) =
      rw same at (not_iff r (Contains (map (λ item. item_of source schema item) items) (item_of source schema key)) tells) in
      (λ t. inl (grouping, said.0 t), λ h. elim h [ inl k ↦ said.1 k.1 | inr k ↦ absurd (k.0 grouping) ])

  pub unselected_plain : (key : Item) (r : Bool) → (¬ IsGrouping s) → (IsTrue r ↔ IsAggregate key) → IsTrue r ↔ IsUnselected source schema s key
  unselected_plain key r plain tells = (λ t. inr (plain, tells.0 t), λ h. elim h [ inl k ↦ absurd (plain k.0) | inr k ↦ tells.1 k.1 ])

-- ---- the query that a statement asks

module _ (source : List ℕ) (schema : Schema) where
  pub taken_item : (x : Item) → IsAggregate x → IsTaken (item_of source schema x)
  taken_item (Column name) h = h
  taken_item (Count first) h = tt
  taken_item (Aggregate a first name) h = tt

  pub spelled_item : (x : Item) → IsTaken (item_of source schema x) → IsAggregate x
  spelled_item (Column name) h = h
  spelled_item (Count first) h = tt
  spelled_item (Aggregate a first name) h = tt

  no_aggregate : (columns : List (ℕ × List ℕ)) (x : Asked) → Contains (map (λ c. asked.Column c.0) columns) x → ¬ IsTaken x
  no_aggregate columns x is h = let found = contains_from_map (λ (c : ℕ × List ℕ). asked.Column c.0) columns x is in (rw (sym found.2) at h)

  listed_aggregate : (selection : Selection) (x : Asked) → Contains (items_of source schema selection) x → IsTaken x → (y : Item) × Contains (listed selection) y × IsAggregate y
  listed_aggregate (Star star) x is h = absurd (no_aggregate (enumerate_from 0 schema.columns) x is h)
  listed_aggregate (Listed items) x is h =
      let found = contains_from_map (item_of source schema) items x is in
      (found.0, found.1, spelled_item found.0 (subst IsTaken (sym found.2) h))

  asked_aggregate : (selection : Selection) (y : Item) → Contains (listed selection) y → IsAggregate y → (x : Asked) × Contains (items_of source schema selection) x × IsTaken x
  asked_aggregate (Star star) y is h = let within = is.1 in absurd (omega arith)
  asked_aggregate (Listed items) y is h = (item_of source schema y, contains_map (item_of source schema) items y is, taken_item y h)

  no_names : (group : List Token) → map (column_of source schema) group ≡ [] → group ≡ []
  no_names [] e = refl
  no_names (t ∷ group) e = cc

  pub groups_syntax : (s : Select) → IsGroupQuery (sense_of source schema s) → IsGrouping s
  groups_syntax s (inl some) = inl (λ none. some (ap (map (column_of source schema)) none))
  groups_syntax s (inr (x, is, taken)) = inr (listed_aggregate s.selection x is taken)

  pub groups_query : (s : Select) → IsGrouping s → IsGroupQuery (sense_of source schema s)
  groups_query s (inl some) = inl (λ none. some (no_names s.group none))
  groups_query s (inr (y, is, h)) = inr (asked_aggregate s.selection y is h)

  pub tells_grouping : (s : Select) (r : Bool) → (IsTrue r ↔ IsGroupQuery (sense_of source schema s)) → IsTrue r ↔ IsGrouping s
  tells_grouping s r tells = (λ t. groups_syntax s (tells.0 t), λ h. tells.1 (groups_query s h))

  pub tells_aggregate : (x : Item) (r : Bool) → (IsTrue r ↔ IsTaken (item_of source schema x)) → IsTrue r ↔ IsAggregate x
  tells_aggregate x r tells = (λ t. spelled_item x (tells.0 t), λ h. tells.1 (taken_item x h))
