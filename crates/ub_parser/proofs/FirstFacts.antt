-- A search that goes over a list in order finds the first thing that is sought.
use Rattle.std.proofs.Common.{◌≡◌, ◌↔◌, ◌+◌, ◌<◌, ◌≤◌, ℕ, suc, Bool, true, false, IsTrue, List, ◌∷◌, [], ◌++◌, Option, Some, None, append_assoc, subst, refl, length, take, drop, get_or, sym, ap, ◌∙◌, take_all, take-append-drop, drop-cons}
use Rattle.std.specs.List.{All, flat_map}
use Rattle.std.specs.Option.{option_or}
use Rattle.std.proofs.lemmas.Grind.{flat_map-append}
use Rattle.std.proofs.lemmas.List.Elements.{All-append, All-head, All-more, All-nil, All-same, All-tail}
use Rattle.ub_parser.specs.Firsts.{IsFirstOrNone}
use Rattle.ub_syntax.specs.Limits.{key_items}
use Rattle.ub_parser.specs.Refusals.{IsFirst, item_names}
use Rattle.ub_lexer.specs.declared.token.Token.{Token}
use Rattle.ub_syntax.specs.declared.syntax.Item.{Item}
use Rattle.ub_syntax.specs.declared.syntax.OrderKey.{OrderKey}

module _ {A : Type 0} where
  around : (xs : List A) (i : ℕ) (d : A) → i < length xs → xs ≡ take i xs ++ get_or xs i d ∷ drop (suc i) xs
  around xs i d lt = sym (take-append-drop i xs) ∙ ap (λ (ys : List A). take i xs ++ ys) (drop-cons xs i d lt)

  -- P holds of the thing at a place and of none before it
  pub first_at : (P : A → Type 0) (xs : List A) (i : ℕ) (d : A) → i < length xs → All (λ y. ¬ P y) (take i xs) → P (get_or xs i d) → IsFirst P xs (get_or xs i d)
  first_at P xs i d lt none holds = (take i xs, drop (suc i) xs, around xs i d lt, none, holds)

  -- nor does it hold of the next
  pub none_more : (P : A → Type 0) (xs : List A) (i : ℕ) (d : A) → i < length xs → All (λ y. ¬ P y) (take i xs) → ¬ P (get_or xs i d) → All (λ y. ¬ P y) (take (i + 1) xs)
  none_more P xs i d lt none fails = All-more (λ y. ¬ P y) xs i d lt none fails

  -- nor of any
  pub none_at_all : (P : A → Type 0) (xs : List A) (i : ℕ) → length xs ≤ i → All (λ y. ¬ P y) (take i xs) → All (λ y. ¬ P y) xs
  none_at_all P xs i le none = All-same (λ y. ¬ P y) xs (take i xs) (sym (take_all i xs le)) none

-- the first of four options
pub from_left : {A : Type 0} (a b c d : Option A) → option_or (option_or (option_or a b) c) d ≡ option_or a (option_or b (option_or c d))
from_left None None c d = refl
from_left None (Some y) c d = refl
from_left (Some x) b c d = refl

-- over lists that are joined, the first of the whole is that of the first list that has one
module _ {A : Type 0} (P : A → Type 0) where
  pub first_left : (xs ys : List A) (x : A) → IsFirst P xs x → IsFirst P (xs ++ ys) x
  first_left xs ys x (before, after, is, none, holds) =
      (before, after ++ ys, ap (λ (zs : List A). zs ++ ys) is ∙ append_assoc before (x ∷ after) ys, none, holds)

  pub first_right : (xs ys : List A) (x : A) → All (λ y. ¬ P y) xs → IsFirst P ys x → IsFirst P (xs ++ ys) x
  first_right xs ys x nothing (before, after, is, none, holds) =
      (xs ++ before, after, ap (λ (zs : List A). xs ++ zs) is ∙ sym (append_assoc xs before (x ∷ after)), All-append (λ y. ¬ P y) xs before nothing none, holds)

  pub first_or : (xs ys : List A) (r q : Option A) → IsFirstOrNone P xs r → IsFirstOrNone P ys q → IsFirstOrNone P (xs ++ ys) (option_or r q)
  first_or xs ys None None h k = All-append (λ y. ¬ P y) xs ys h k
  first_or xs ys None (Some y) h k = first_right xs ys y h k
  first_or xs ys (Some x) q h k = first_left xs ys x h

  pub first_same : (ws xs : List A) (r : Option A) → ws ≡ xs → IsFirstOrNone P xs r → IsFirstOrNone P ws r
  first_same ws xs r is h = subst (λ (ys : List A). IsFirstOrNone P ys r) (sym is) h

  pub first_joined : (ws xs ys : List A) (r q o : Option A) → ws ≡ xs ++ ys → IsFirstOrNone P xs r → IsFirstOrNone P ys q → o ≡ option_or r q → IsFirstOrNone P ws o
  first_joined ws xs ys r q o is h k e = first_same ws (xs ++ ys) o is (subst (λ (p : Option A). IsFirstOrNone P (xs ++ ys) p) (sym e) (first_or xs ys r q h k))

-- the same of the lists that things in a list give
module _ {A B : Type 0} (P : B → Type 0) (f : A → List B) where
  pub flat_none : (xs : List A) → All (λ x. All (λ y. ¬ P y) (f x)) xs → All (λ y. ¬ P y) (flat_map f xs)
  flat_none [] h = All-nil (λ y. ¬ P y)
  flat_none (x ∷ xs) h =
      All-append (λ y. ¬ P y) (f x) (flat_map f xs) (All-head (λ x. All (λ y. ¬ P y) (f x)) x xs h) (flat_none xs (All-tail (λ x. All (λ y. ¬ P y) (f x)) x xs h))

  pub flat_first : (xs : List A) (i : ℕ) (d : A) (y : B) → i < length xs → All (λ x. All (λ y. ¬ P y) (f x)) (take i xs) → IsFirst P (f (get_or xs i d)) y → IsFirst P (flat_map f xs) y
  flat_first xs i d y lt none first =
      let whole = first_right P (flat_map f (take i xs)) (f (get_or xs i d) ++ flat_map f (drop (suc i) xs)) y (flat_none (take i xs) none)
      (first_left P (f (get_or xs i d)) (flat_map f (drop (suc i) xs)) y first) in
      subst (λ (ys : List B). IsFirst P ys y) (sym (flat_map-append f (take i xs) (get_or xs i d ∷ drop (suc i) xs)) ∙ sym (ap (flat_map f) (around xs i d lt))) whole

-- the names of items, and of the items of keys, as such lists
pub items_names : (items : List Item) → flat_map item_names items ≡ flat_map (λ item. item_names item) items
items_names [] = refl
items_names (item ∷ items) = ap (λ (ts : List Token). item_names item ++ ts) (items_names items)

pub keys_names : (keys : List OrderKey) → flat_map item_names (key_items keys) ≡ flat_map (λ key. item_names key.item) keys
keys_names [] = refl
keys_names (key ∷ keys) = ap (λ (ts : List Token). item_names key.item ++ ts) (keys_names keys)

-- what a test that failed would have told doesn't hold
pub fails : (b : Bool) (P : Type 0) → (IsTrue b ↔ P) → b ≡ false → ¬ P
fails b P tells is p = let clash : true ≡ false = sym (tells.1 p) ∙ is in cc
