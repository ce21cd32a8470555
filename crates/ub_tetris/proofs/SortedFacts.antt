-- Sorted lists in which no two elements are alike.
use Rattle.std.proofs.Common.{◌≡◌, List, [], ◌∷◌, Bool, true, false, IsPermutation, refl, sym, ap, ◌∙◌, arith}
use Rattle.std.proofs.lemmas.Bool.{true≢false}
use Rattle.std.proofs.lemmas.List.Sorted.{ranks_by}
use Rattle.std.proofs.lemmas.Map.Keys.{IsDistinct-cons, IsDistinct-head, IsDistinct-tail, IsDistinct-IsPermutation}
use Rattle.std.specs.Cmp.{IsTotalOrder, IsStrictWeakOrder}
use Rattle.std.specs.List.{AllByRecursion, IsDistinct}
use Rattle.std.specs.List.Sorted.{IsSorted}
use Rattle.std.specs.Ordering.{is_lt, ordering_reverse}
use Rattle.std.specs.declared.cmp.Ordering.{Ordering}
use Rattle.std.specs.declared.cmp.Ordering.TheVariants.{Less, Equal, Greater}
use Rattle.ub_query.proofs.Laws.{Rising, Rising-from_adjacent}
use Rattle.ub_region.proofs.Laws.{all_after, up_tail}
use Rattle.ub_table.specs.Keys.{AreKeysAscending, IsBefore}
use Rattle.ub_table.specs.declared.row.Key.{Key}

from_distinct : {E : Type 0} (e : E → E → Bool) (xs : List E) → IsDistinct e xs → Rising (λ a b. e a b ≡ false) xs
from_distinct e [] d = tt
from_distinct e (x ∷ xs) d = (IsDistinct-head e x xs d, from_distinct e xs (IsDistinct-tail e x xs d))

to_distinct : {E : Type 0} (e : E → E → Bool) (xs : List E) → Rising (λ a b. e a b ≡ false) xs → IsDistinct e xs
unfolding IsDistinct
to_distinct e [] up = tt
to_distinct e (x ∷ xs) up = IsDistinct-cons e x xs up.0 (to_distinct e xs up.1)

-- where no two are alike, no two are in another order
pub rising_permutation : {E : Type 0} (e : E → E → Bool) → ((x y : E) → e x y ≡ e y x) → (xs ys : List E) → IsPermutation xs ys
    → Rising (λ a b. e a b ≡ false) xs → Rising (λ a b. e a b ≡ false) ys
rising_permutation e flips xs ys same up = from_distinct e ys (IsDistinct-IsPermutation e flips xs ys same (to_distinct e xs up))

all_and : {E : Type 0} (P Q S : E → Type 0) → ((x : E) → P x → Q x → S x) → (xs : List E) → AllByRecursion P xs → AllByRecursion Q xs → AllByRecursion S xs
all_and P Q S f [] p q = tt
all_and P Q S f (x ∷ xs) p q = (f x p.0 q.0, all_and P Q S f xs p.1 q.1)

rising_and : {E : Type 0} (R S T : E → E → Type 0) → ((a b : E) → R a b → S a b → T a b) → (xs : List E) → Rising R xs → Rising S xs → Rising T xs
rising_and R S T f [] p q = tt
rising_and R S T f (x ∷ xs) p q = (all_and (λ y. R x y) (λ y. S x y) (λ y. T x y) (f x) xs p.0 q.0, rising_and R S T f xs p.1 q.1)

pub rising_weaker : {E : Type 0} (R S : E → E → Type 0) → ((a b : E) → R a b → S a b) → (xs : List E) → Rising R xs → Rising S xs
rising_weaker R S f xs p = rising_and R R S (λ a b r s. f a b r) xs p p

-- first keys that ascend
pub keys_rise : (keys : List Key) → AreKeysAscending keys → Rising (λ a b. IsBefore a b) keys
keys_rise [] up = tt
keys_rise (key ∷ keys) up = (all_after key keys up, keys_rise keys (up_tail key keys up))

module _ {E : Type 0} (cmp : E → E → Ordering) (o : IsTotalOrder cmp) where
  weak : IsStrictWeakOrder (λ x y. is_lt (cmp x y))
  weak = ranks_by o (λ (x : E). x)

  -- none is before an earlier one
  up_from_sorted : (xs : List E) → IsSorted cmp xs → Rising (λ a b. is_lt (cmp b a) ≡ false) xs
  up_from_sorted xs sorted =
      Rising-from_adjacent (λ a b. is_lt (cmp b a) ≡ false) (λ x y z p q. (weak).chain z y x q p) xs (λ k d within. sorted k d (omega arith) within)

  less_by : (a b : E) (r : Ordering) → cmp b a ≡ r → is_lt (cmp b a) ≡ false → ¬ (cmp a b ≡ Equal) → cmp a b ≡ Less
  less_by a b Less is p q = let bad : true ≡ false = sym (ap is_lt is) ∙ p in absurd (true≢false bad)
  less_by a b Equal is p q = absurd (q (o.antisymm a b ∙ ap ordering_reverse is))
  less_by a b Greater is p q = o.antisymm a b ∙ ap ordering_reverse is

  -- each is before all later ones
  pub strictly_from_sorted : (xs : List E) → IsSorted cmp xs → Rising (λ a b. ¬ (cmp a b ≡ Equal)) xs → Rising (λ a b. cmp a b ≡ Less) xs
  strictly_from_sorted xs sorted apart =
      rising_and (λ a b. is_lt (cmp b a) ≡ false) (λ a b. ¬ (cmp a b ≡ Equal)) (λ a b. cmp a b ≡ Less) (λ a b p q. less_by a b (cmp b a) refl p q) xs (up_from_sorted xs sorted) apart
