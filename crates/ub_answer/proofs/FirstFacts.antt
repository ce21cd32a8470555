-- The first n of some entries in an order, from those that are held.
use Rattle.std.proofs.Common.{◌≡◌, ◌≤◌, ◌+◌, ℕ, zero, suc, Bool, true, false, not, cond, List, [], ◌∷◌, ◌++◌, length, take, drop, Option, Some, None, IfSome, slice_get, slice_index_or, ◌-◌, ◌⊎◌, inl, inr, ⊎_elim, IsPermutation, Contains, refl, sym, ap, subst, arith, ◌∙◌, append_assoc}
use Rattle.std.proofs.lemmas.Bool.{cases_Bool, true≢false}
use Rattle.std.proofs.lemmas.Cmp.{tied_itself, eq_by_cmp_equiv}
use Rattle.std.proofs.lemmas.List.{take-append-drop, length-take}
use Rattle.std.proofs.lemmas.List.Elements.{Contains-append_left, Contains-append_right, Contains-append_cases}
use Rattle.std.proofs.lemmas.List.Sorted.{ranks_by, IsPermutation-refl, IsPermutation-trans, IsPermutation-sym, IsPermutation-cons, IsPermutation-to_front, IsPermutation-middle, IsPermutation-append_left, Contains-permutation, length_permutation, sum_by-IsPermutation}
use Rattle.std.proofs.lemmas.List.Sums.{sum_by-cons, sum_by_push}
use Rattle.std.proofs.lemmas.Map.Keys.{IsDistinct-cons, IsDistinct-head, IsDistinct-tail, IsDistinct-IsPermutation}
use Rattle.std.specs.Cmp.{IsTotalOrder, IsStrictWeakOrder}
use Rattle.std.specs.List.{AllByRecursion, IsDistinct, count_by}
use Rattle.std.specs.List.Sorted.{IsSorted}
use Rattle.std.specs.Ordering.{is_lt, is_eq, eq_by_cmp, ordering_reverse}
use Rattle.std.specs.declared.cmp.Ordering.{Ordering}
use Rattle.std.specs.declared.cmp.Ordering.TheVariants.{Less, Equal, Greater}
use Rattle.ub_answer.specs.inner.Kept.{up_to, IsBehind, HoldsFirst}
use Rattle.ub_query.proofs.Laws.{Rising, Rising-from_adjacent, Rising-one, an_arrangement, contains_here, contains_later, contains_cases, contains_none, all_at}
use Rattle.ub_query.specs.Meaning.{limited}

-- ---- lists

all_two : {E : Type 0} (P Q S : E → Type 0) → ((x : E) → P x → Q x → S x) → (xs : List E) → AllByRecursion P xs → AllByRecursion Q xs → AllByRecursion S xs
all_two P Q S f [] p q = tt
all_two P Q S f (x ∷ xs) p q = (f x p.0 q.0, all_two P Q S f xs p.1 q.1)

all_append : {E : Type 0} (P : E → Type 0) (xs ys : List E) → AllByRecursion P xs → AllByRecursion P ys → AllByRecursion P (xs ++ ys)
all_append P [] ys p q = q
all_append P (x ∷ xs) ys p q = (p.0, all_append P xs ys p.1 q)

all_drop : {E : Type 0} (P : E → Type 0) (n : ℕ) (xs : List E) → AllByRecursion P xs → AllByRecursion P (drop n xs)
all_drop P zero [] p = tt
all_drop P zero (x ∷ xs) p = p
all_drop P (suc n) [] p = tt
all_drop P (suc n) (x ∷ xs) p = all_drop P n xs p.1

rising_two : {E : Type 0} (R S T : E → E → Type 0) → ((a b : E) → R a b → S a b → T a b) → (xs : List E) → Rising R xs → Rising S xs → Rising T xs
rising_two R S T f [] p q = tt
rising_two R S T f (x ∷ xs) p q = (all_two (λ y. R x y) (λ y. S x y) (λ y. T x y) (f x) xs p.0 q.0, rising_two R S T f xs p.1 q.1)

rising_left : {E : Type 0} (R : E → E → Type 0) (xs ys : List E) → Rising R (xs ++ ys) → Rising R xs
rising_left R [] ys p = tt
rising_left R (x ∷ xs) ys p = (all_left (λ y. R x y) xs ys p.0, rising_left R xs ys p.1)
  where
    all_left : {E : Type 0} (P : E → Type 0) (xs ys : List E) → AllByRecursion P (xs ++ ys) → AllByRecursion P xs
    all_left P [] ys p = tt
    all_left P (x ∷ xs) ys p = (p.0, all_left P xs ys p.1)

rising_across : {E : Type 0} (R : E → E → Type 0) (xs ys : List E) (a b : E) → Rising R (xs ++ ys) → Contains xs a → Contains ys b → R a b
rising_across R [] ys a b p c d = absurd (contains_none a c)
rising_across R (x ∷ xs) ys a b p c d =
    ⊎_elim (λ (e : x ≡ a). subst (λ (z : _). R z b) e (all_at (λ y. R x y) (xs ++ ys) b p.0 (Contains-append_right xs ys b d)))
    (λ (more : Contains xs a). rising_across R xs ys a b p.1 more d)
    (contains_cases x xs a c)

pub from_distinct : {E : Type 0} (e : E → E → Bool) (xs : List E) → IsDistinct e xs → Rising (λ a b. e a b ≡ false) xs
from_distinct e [] d = tt
from_distinct e (x ∷ xs) d = (IsDistinct-head e x xs d, from_distinct e xs (IsDistinct-tail e x xs d))

to_distinct : {E : Type 0} (e : E → E → Bool) (xs : List E) → Rising (λ a b. e a b ≡ false) xs → IsDistinct e xs
unfolding IsDistinct
to_distinct e [] up = tt
to_distinct e (x ∷ xs) up = IsDistinct-cons e x xs up.0 (to_distinct e xs up.1)

-- where no two are alike, no two are in another order
pub rising_permutation : {E : Type 0} (e : E → E → Bool) → ((x y : E) → e x y ≡ e y x) → (xs ys : List E) → IsPermutation xs ys
    → Rising (λ a b. e a b ≡ false) xs → Rising (λ a b. e a b ≡ false) ys
rising_permutation e flips xs ys same up = from_distinct e ys (IsDistinct-IsPermutation e flips xs ys same (to_distinct e xs up))

take_none : {E : Type 0} (xs ys : List E) → take 0 xs ≡ take 0 ys
take_none [] [] = refl
take_none [] (y ∷ ys) = refl
take_none (x ∷ xs) [] = refl
take_none (x ∷ xs) (y ∷ ys) = refl

-- ---- counts

count_cons : {E : Type 0} (p : E → Bool) (x : E) (xs : List E) → count_by p (x ∷ xs) ≡ cond (p x) 1 0 + count_by p xs
count_cons p x xs = sum_by-cons (λ y. cond (p y) 1 0) x xs

count_true : {E : Type 0} (p : E → Bool) (x : E) (xs : List E) → p x ≡ true → count_by p (x ∷ xs) ≡ 1 + count_by p xs
count_true p x xs is = count_cons p x xs ∙ ap (λ (b : Bool). cond b 1 0 + count_by p xs) is

count_false : {E : Type 0} (p : E → Bool) (x : E) (xs : List E) → p x ≡ false → count_by p (x ∷ xs) ≡ count_by p xs
count_false p x xs is = let e : count_by p (x ∷ xs) ≡ 0 + count_by p xs = count_cons p x xs ∙ ap (λ (b : Bool). cond b 1 0 + count_by p xs) is in omega arith

count_none : {E : Type 0} (p : E → Bool) (xs : List E) → AllByRecursion (λ x. p x ≡ false) xs → count_by p xs ≡ 0
count_none p [] all = refl
count_none p (x ∷ xs) all = count_false p x xs all.0 ∙ count_none p xs all.1

-- one of those counted
count_some : {E : Type 0} (p : E → Bool) (xs : List E) → 1 ≤ count_by p xs → (x : E) × Contains xs x × (p x ≡ true)
count_some p [] some = absurd (omega arith)
count_some p (x ∷ xs) some = elim (cases_Bool (p x)) [
  | inl is ↦ (x, contains_here x xs, is)
  | inr is_not ↦
      let less : 1 ≤ count_by p xs = let e = count_false p x xs is_not in omega arith in
      let (y, here, is) = count_some p xs less in (y, contains_later x xs y here, is)
]

count_push : {E : Type 0} (p : E → Bool) (xs : List E) (y : E) → count_by p xs ≤ count_by p (xs ++ y ∷ [])
count_push p xs y = let e = sum_by_push (λ x. cond (p x) 1 0) xs y in omega arith

count_permutation : {E : Type 0} (p : E → Bool) (xs ys : List E) → IsPermutation xs ys → count_by p ys ≡ count_by p xs
count_permutation p xs ys same = sum_by-IsPermutation (λ x. cond (p x) 1 0) xs ys same

-- ---- in an order

module _ {E : Type 0} (cmp : E → E → Ordering) (o : IsTotalOrder cmp) where
  weak : IsStrictWeakOrder (λ x y. is_lt (cmp x y))
  weak = ranks_by o (λ (x : E). x)

  less_itself : (x : E) → ¬ (cmp x x ≡ Less)
  less_itself x e = let tied : cmp x x ≡ Equal = tied_itself o x in let bad : Less ≡ Equal = sym e ∙ tied in cc

  -- sorted entries: none is before an earlier one
  pub up_from_sorted : (xs : List E) → IsSorted cmp xs → Rising (λ a b. is_lt (cmp b a) ≡ false) xs
  up_from_sorted xs sorted =
      Rising-from_adjacent (λ a b. is_lt (cmp b a) ≡ false) (λ x y z p q. (weak).chain z y x q p) xs (λ k d within. sorted k d (omega arith) within)

  less_by : (a b : E) (r : Ordering) → cmp b a ≡ r → is_lt (cmp b a) ≡ false → is_eq (cmp a b) ≡ false → cmp a b ≡ Less
  less_by a b Less is p q = let bad : true ≡ false = sym (ap is_lt is) ∙ p in absurd (true≢false bad)
  less_by a b Equal is p q =
      let e : cmp a b ≡ Equal = o.antisymm a b ∙ ap ordering_reverse is in let bad : true ≡ false = sym (ap is_eq e) ∙ q in absurd (true≢false bad)
  less_by a b Greater is p q = o.antisymm a b ∙ ap ordering_reverse is

  pub strictly_from_up : (xs : List E) → Rising (λ a b. is_lt (cmp b a) ≡ false) xs → Rising (λ a b. is_eq (cmp a b) ≡ false) xs → Rising (λ a b. cmp a b ≡ Less) xs
  strictly_from_up xs up apart =
      rising_two (λ a b. is_lt (cmp b a) ≡ false) (λ a b. is_eq (cmp a b) ≡ false) (λ a b. cmp a b ≡ Less) (λ a b p q. less_by a b (cmp b a) refl p q) xs up apart

  -- of which no two are alike: each is before all later ones
  pub strictly_from_sorted : (xs : List E) → IsSorted cmp xs → Rising (λ a b. is_eq (cmp a b) ≡ false) xs → Rising (λ a b. cmp a b ≡ Less) xs
  strictly_from_sorted xs sorted apart = strictly_from_up xs (up_from_sorted xs sorted) apart

  -- an entry that n don't stand after: the first n don't
  behind_first : (n : ℕ) (xs : List E) (e : E) → Rising (λ a b. is_lt (cmp b a) ≡ false) xs → n ≤ up_to cmp xs e → n ≤ up_to cmp (take n xs) e
  behind_first zero xs e up h = omega arith
  behind_first (suc n) [] e up h = h
  behind_first (suc n) (x ∷ xs) e up h = elim (cases_Bool (not (is_lt (cmp e x)))) [
    | inl is ↦
        let long = count_true (λ other. not (is_lt (cmp e other))) x xs is in
        let rest : n ≤ up_to cmp (take n xs) e = behind_first n xs e up.1 (omega arith) in
        let short = count_true (λ other. not (is_lt (cmp e other))) x (take n xs) is in
        omega arith
    | inr after ↦
        let none = count_none (λ other. not (is_lt (cmp e other))) xs (all_weaker_after x e (not_false (is_lt (cmp e x)) after) xs up.0) in
        let long = count_false (λ other. not (is_lt (cmp e other))) x xs after in
        absurd (omega arith)
  ]
    where
      not_false : (b : Bool) → not b ≡ false → b ≡ true
      not_false true p = refl
      not_false false p = absurd (true≢false p)

      after_too : (x e y : E) → is_lt (cmp e x) ≡ true → is_lt (cmp y x) ≡ false → not (is_lt (cmp e y)) ≡ false
      after_too x e y p q = elim (cases_Bool (is_lt (cmp e y))) [
        | inl t ↦ ap not t
        | inr f ↦ absurd (true≢false (sym p ∙ (weak).chain e y x f q))
      ]

      all_weaker_after : (x e : E) → is_lt (cmp e x) ≡ true → (ys : List E) → AllByRecursion (λ y. is_lt (cmp y x) ≡ false) ys
          → AllByRecursion (λ y. not (is_lt (cmp e y)) ≡ false) ys
      all_weaker_after x e p [] all = tt
      all_weaker_after x e p (y ∷ ys) all = (after_too x e y p all.0, all_weaker_after x e p ys all.1)

  count_all : (e : E) (n : ℕ) (xs : List E) → length xs ≡ n → AllByRecursion (λ x. is_lt (cmp e x) ≡ false) xs → n ≤ up_to cmp xs e
  count_all e n [] long all = omega arith
  count_all e zero (x ∷ xs) long all = omega arith
  count_all e (suc n) (x ∷ xs) long all =
      let first = count_true (λ other. not (is_lt (cmp e other))) x xs (ap not all.0) in
      let rest = count_all e n xs (omega arith) all.1 in omega arith

  -- what stands after the first n
  behind_rest : (n : ℕ) (xs : List E) → Rising (λ a b. is_lt (cmp b a) ≡ false) xs → AllByRecursion (λ e. n ≤ up_to cmp (take n xs) e) (drop n xs)
  behind_rest zero [] up = tt
  behind_rest zero (x ∷ xs) up = all_zero (x ∷ xs) (take 0 (x ∷ xs))
    where
      all_zero : (ys zs : List E) → AllByRecursion (λ e. 0 ≤ up_to cmp zs e) ys
      all_zero [] zs = tt
      all_zero (y ∷ ys) zs = (omega arith, all_zero ys zs)
  behind_rest (suc n) [] up = tt
  behind_rest (suc n) (x ∷ xs) up =
      all_two (λ e. n ≤ up_to cmp (take n xs) e) (λ e. is_lt (cmp e x) ≡ false) (λ e. suc n ≤ up_to cmp (x ∷ take n xs) e)
      (λ e p q. let one = count_true (λ other. not (is_lt (cmp e other))) x (take n xs) (ap not q) in omega arith)
      (drop n xs) (behind_rest n xs up.1) (all_drop (λ e. is_lt (cmp e x) ≡ false) n xs up.0)

  behind_of : (limit : Option ℕ) (held more : List E) → ((e : E) → up_to cmp held e ≤ up_to cmp more e) → (gone : List E)
      → AllByRecursion (λ e. IsBehind cmp limit held e) gone → AllByRecursion (λ e. IsBehind cmp limit more e) gone
  behind_of limit held more f [] all = tt
  behind_of None held more f (e ∷ gone) all = absurd all.0
  behind_of (Some n) held more f (e ∷ gone) all = (let g = f e in let h = all.0 in omega arith, behind_of (Some n) held more f gone all.1)

  -- ---- what is held

  pub nothing_held : (limit : Option ℕ) → HoldsFirst cmp limit [] []
  nothing_held limit = record { gone = []; same = IsPermutation-refl []; behind = tt }

  pub held_more : (limit : Option ℕ) (taken held : List E) (e : E) → HoldsFirst cmp limit taken held → HoldsFirst cmp limit (taken ++ e ∷ []) (held ++ e ∷ [])
  held_more limit taken held e h = record {
    gone = h.gone;
    same =
        let front : IsPermutation (taken ++ e ∷ []) (e ∷ taken) = IsPermutation-to_front taken e in
        let under : IsPermutation (e ∷ taken) (e ∷ (held ++ h.gone)) = IsPermutation-cons e taken (held ++ h.gone) h.same in
        let middle : IsPermutation (e ∷ (held ++ h.gone)) (held ++ e ∷ h.gone) = IsPermutation-sym (held ++ e ∷ h.gone) (e ∷ (held ++ h.gone)) (IsPermutation-middle held e h.gone) in
        subst (λ (xs : List E). IsPermutation (taken ++ e ∷ []) xs) (sym (append_assoc held (e ∷ []) h.gone))
        (IsPermutation-trans (taken ++ e ∷ []) (e ∷ taken) (held ++ e ∷ h.gone) front (IsPermutation-trans (e ∷ taken) (e ∷ (held ++ h.gone)) (held ++ e ∷ h.gone) under middle));
    behind = behind_of limit held (held ++ e ∷ []) (λ g. count_push (λ other. not (is_lt (cmp g other))) held e) h.gone h.behind;
  }

  pub held_first : (limit : Option ℕ) (taken held sorted : List E) → IsPermutation held sorted → IsSorted cmp sorted → HoldsFirst cmp limit taken held
      → HoldsFirst cmp limit taken (limited limit sorted)
  held_first None taken held sorted same up h = record {
    gone = h.gone;
    same = IsPermutation-trans taken (held ++ h.gone) (sorted ++ h.gone) h.same (IsPermutation-append_left h.gone held sorted same);
    behind = behind_of None held sorted (λ e. let c = count_permutation (λ other. not (is_lt (cmp e other))) held sorted same in omega arith) h.gone h.behind;
  }
  held_first (Some n) taken held sorted same up h =
      let rising = up_from_sorted sorted up in
      let whole : IsPermutation taken (sorted ++ h.gone) = IsPermutation-trans taken (held ++ h.gone) (sorted ++ h.gone) h.same (IsPermutation-append_left h.gone held sorted same) in
      let parts : sorted ++ h.gone ≡ take n sorted ++ (drop n sorted ++ h.gone) =
      ap (λ (xs : List E). xs ++ h.gone) (sym (take-append-drop n sorted)) ∙ append_assoc (take n sorted) (drop n sorted) h.gone in
      record {
        gone = drop n sorted ++ h.gone;
        same = subst (λ (xs : List E). IsPermutation taken xs) parts whole;
        behind = all_append (λ e. IsBehind cmp (Some n) (take n sorted) e) (drop n sorted) h.gone (behind_rest n sorted rising) (still_behind h.gone h.behind);
      }
    where
      still_behind : (gone : List E) → AllByRecursion (λ e. IsBehind cmp (Some n) held e) gone → AllByRecursion (λ e. IsBehind cmp (Some n) (take n sorted) e) gone
      still_behind [] all = tt
      still_behind (e ∷ gone) all = (
        behind_first n sorted e (up_from_sorted sorted up)
            (let c = count_permutation (λ other. not (is_lt (cmp e other))) held sorted same in let p = all.0 in omega arith),
        still_behind gone all.1,
      )

  behind_one : (limit : Option ℕ) (held more : List E) (e : E) → up_to cmp held e ≤ up_to cmp more e → IsBehind cmp limit held e → IsBehind cmp limit more e
  behind_one None held more e le h = h
  behind_one (Some n) held more e le h = omega arith

  pub behind_push : (limit : Option ℕ) (held : List E) (x : E) (last : Option E) → IfSome last (λ e. IsBehind cmp limit held e)
      → IfSome last (λ e. IsBehind cmp limit (held ++ x ∷ []) e)
  behind_push limit held x None h = tt
  behind_push limit held x (Some e) h = behind_one limit held (held ++ x ∷ []) e (count_push (λ other. not (is_lt (cmp e other))) held x) h

  up_to_later : (b e : E) → cmp b e ≡ Less → (xs : List E) → up_to cmp xs b ≤ up_to cmp xs e
  up_to_later b e less [] = omega arith
  up_to_later b e less (x ∷ xs) =
      let rest = up_to_later b e less xs in
      elim (cases_Bool (not (is_lt (cmp b x)))) [
        | inl is ↦
            let one = count_true (λ other. not (is_lt (cmp b other))) x xs is in
            let also : not (is_lt (cmp e x)) ≡ true = not_later (cmp e x) refl is in
            let two = count_true (λ other. not (is_lt (cmp e other))) x xs also in
            omega arith
        | inr is ↦
            let one = count_false (λ other. not (is_lt (cmp b other))) x xs is in
            let two : up_to cmp xs e ≤ up_to cmp (x ∷ xs) e = more_or_same (λ other. not (is_lt (cmp e other))) x xs in
            omega arith
      ]
    where
      not_later : (r : Ordering) → cmp e x ≡ r → not (is_lt (cmp b x)) ≡ true → not (is_lt r) ≡ true
      not_later Less is h = absurd (true≢false (sym h ∙ ap (λ (r : Ordering). not (is_lt r)) (o.trans b e x less is)))
      not_later Equal is h = refl
      not_later Greater is h = refl

      more_or_same : (p : E → Bool) (x : E) (xs : List E) → count_by p xs ≤ count_by p (x ∷ xs)
      more_or_same p x xs = let e = count_cons p x xs in omega arith

  -- a row that isn't needed is let go at once
  pub held_without : (limit : Option ℕ) (taken held : List E) (b e : E) → cmp b e ≡ Less → IsBehind cmp limit held b → HoldsFirst cmp limit taken held
      → HoldsFirst cmp limit (taken ++ e ∷ []) held
  held_without limit taken held b e less behind h = record {
    gone = e ∷ h.gone;
    same =
        let front : IsPermutation (taken ++ e ∷ []) (e ∷ taken) = IsPermutation-to_front taken e in
        let under : IsPermutation (e ∷ taken) (e ∷ (held ++ h.gone)) = IsPermutation-cons e taken (held ++ h.gone) h.same in
        let middle : IsPermutation (e ∷ (held ++ h.gone)) (held ++ e ∷ h.gone) = IsPermutation-sym (held ++ e ∷ h.gone) (e ∷ (held ++ h.gone)) (IsPermutation-middle held e h.gone) in
        IsPermutation-trans (taken ++ e ∷ []) (e ∷ taken) (held ++ e ∷ h.gone) front (IsPermutation-trans (e ∷ taken) (e ∷ (held ++ h.gone)) (held ++ e ∷ h.gone) under middle);
    behind = (later_behind limit behind, h.behind);
  }
    where
      later_behind : (limit : Option ℕ) → IsBehind cmp limit held b → IsBehind cmp limit held e
      later_behind None h = h
      later_behind (Some n) h = let more = up_to_later b e less held in omega arith

  -- of entries in order, none stands after the last
  last_of_all : (xs : List E) → Rising (λ a b. is_lt (cmp b a) ≡ false) xs → (e : E) → slice_get xs (length xs - 1) ≡ Some e → length xs ≤ up_to cmp xs e
  last_of_all [] up e is = omega arith
  last_of_all (x ∷ []) up e is =
      let same : x ≡ e = cc in
      let one = count_true (λ other. not (is_lt (cmp e other))) x [] (subst (λ (y : E). not (is_lt (cmp e y)) ≡ true) (sym same) (ap (λ (r : Ordering). not (is_lt r)) (tied_itself o e))) in
      omega arith
  last_of_all (x ∷ y ∷ rest) up e is =
      let shift : suc (suc (length rest)) - 1 ≡ suc (length rest) = omega arith in
      let there : slice_get (y ∷ rest) (length rest) ≡ Some e = subst (λ (n : ℕ). slice_get (x ∷ y ∷ rest) n ≡ Some e) shift is in
      let back : length rest ≡ suc (length rest) - 1 = omega arith in
      let among : Contains (y ∷ rest) e = (length rest, omega arith, last_is (y ∷ rest) (length rest) e there) in
      let first : is_lt (cmp e x) ≡ false = all_at (λ z. is_lt (cmp z x) ≡ false) (y ∷ rest) e up.0 among in
      let one = count_true (λ other. not (is_lt (cmp e other))) x (y ∷ rest) (ap not first) in
      let more = last_of_all (y ∷ rest) up.1 e (subst (λ (n : ℕ). slice_get (y ∷ rest) n ≡ Some e) back there) in
      omega arith
    where
      last_is : (xs : List E) (k : ℕ) (e : E) → slice_get xs k ≡ Some e → slice_index_or xs k e ≡ e
      last_is [] k e is = cc
      last_is (x ∷ xs) zero e is = cc
      last_is (x ∷ xs) (suc k) e is = last_is xs k e is

  -- the last of the first n
  pub last_behind : (n : ℕ) (held sorted first : List E) (last : Option E) → IsPermutation held sorted → IsSorted cmp sorted → n ≤ length held → first ≡ take n sorted
      → last ≡ slice_get first (length first - 1) → IfSome last (λ e. IsBehind cmp (Some n) first e)
  last_behind n held sorted first None same up long are is = tt
  last_behind n held sorted first (Some e) same up long are is =
      let rising = up_from_sorted sorted up in
      let parts = sym (take-append-drop n sorted) in
      let up_first : Rising (λ a b. is_lt (cmp b a) ≡ false) first =
      subst (λ (xs : List E). Rising (λ a b. is_lt (cmp b a) ≡ false) xs) (sym are)
      (rising_left (λ a b. is_lt (cmp b a) ≡ false) (take n sorted) (drop n sorted) (subst (λ (xs : List E). Rising (λ a b. is_lt (cmp b a) ≡ false) xs) parts rising)) in
      let all = last_of_all first up_first e (sym is) in
      let count : length first ≡ length (take n sorted) = ap length are in
      let whole = length_permutation held sorted same in
      let cut = length-take n sorted in
      omega arith

  -- ---- the first n of all are the first n of those held

  same_heads : (x y : E) (xs ys : List E) → AllByRecursion (λ z. cmp x z ≡ Less) xs → AllByRecursion (λ z. cmp y z ≡ Less) ys
      → Contains (y ∷ ys) x → Contains (x ∷ xs) y → x ≡ y
  same_heads x y xs ys up down left right = elim (contains_cases y ys x left) [
    | inl e ↦ sym e
    | inr c ↦ elim (contains_cases x xs y right) [
      | inl e ↦ e
      | inr d ↦ absurd (less_itself x (o.trans x y x (all_at (λ z. cmp x z ≡ Less) xs y up d) (all_at (λ z. cmp y z ≡ Less) ys x down c)))
    ]
  ]

  later : (x : E) (xs : List E) (z : E) → ¬ (x ≡ z) → Contains (x ∷ xs) z → Contains xs z
  later x xs z differ c = elim (contains_cases x xs z c) [ inl e ↦ absurd (differ e) | inr d ↦ d ]

  apart_from : (x : E) (xs : List E) (z : E) → AllByRecursion (λ z. cmp x z ≡ Less) xs → Contains xs z → ¬ (x ≡ z)
  apart_from x xs z up c e = less_itself x (subst (λ (w : E). cmp x w ≡ Less) (sym e) (all_at (λ z. cmp x z ≡ Less) xs z up c))

  -- all of those held are among all, none of those let go is, and all are among the two
  record Parts (all held gone : List E) : Type 0 where
    split : (z : E) → Contains all z → Contains held z ⊎ Contains gone z
    held_in : (z : E) → Contains held z → Contains all z
    gone_in : (z : E) → Contains gone z → Contains all z
    apart : (z : E) → Contains held z → Contains gone z → ⊥

  not_first : (a : E) (rest held gone : List E) → AllByRecursion (λ z. cmp a z ≡ Less) rest → Parts (a ∷ rest) held gone → Contains gone a → 1 ≤ up_to cmp held a → ⊥
  not_first a rest held gone up parts here some =
      let (x, in_held, is) = count_some (λ other. not (is_lt (cmp a other))) held some in
      elim (contains_cases a rest x (parts.held_in x in_held)) [
        | inl e ↦ parts.apart a (subst (λ (z : E). Contains held z) (sym e) in_held) here
        | inr c ↦ true≢false (sym is ∙ ap (λ (r : Ordering). not (is_lt r)) (all_at (λ z. cmp a z ≡ Less) rest x up c))
      ]

  first_parts : (a : E) (rest held gone : List E) → AllByRecursion (λ z. cmp a z ≡ Less) rest → AllByRecursion (λ z. cmp a z ≡ Less) held
      → Parts (a ∷ rest) (a ∷ held) gone → Parts rest held gone
  first_parts a rest held gone up down parts = record {
    split = λ z c. elim (parts.split z (contains_later a rest z c)) [
      | inl h ↦ inl (later a held z (apart_from a rest z up c) h)
      | inr g ↦ inr g
    ];
    held_in = λ z c. later a rest z (apart_from a held z down c) (parts.held_in z (contains_later a held z c));
    gone_in = λ z c. later a rest z (λ e. parts.apart a (contains_here a held) (subst (λ (w : E). Contains gone w) (sym e) c)) (parts.gone_in z c);
    apart = λ z c d. parts.apart z (contains_later a held z c) d;
  }

  first_same : (n : ℕ) (all held gone : List E) → Rising (λ a b. cmp a b ≡ Less) all → Rising (λ a b. cmp a b ≡ Less) held → Parts all held gone
      → ((z : E) → Contains gone z → n ≤ up_to cmp held z) → take n all ≡ take n held
  first_same zero all held gone up down parts behind = take_none all held
  first_same (suc n) [] [] gone up down parts behind = refl
  first_same (suc n) [] (h ∷ hs) gone up down parts behind = absurd (contains_none h (parts.held_in h (contains_here h hs)))
  first_same (suc n) (a ∷ rest) [] gone up down parts behind = elim (parts.split a (contains_here a rest)) [
    | inl c ↦ absurd (contains_none a c)
    | inr c ↦ let h = behind a c in absurd (omega arith)
  ]
  first_same (suc n) (a ∷ rest) (h ∷ hs) gone up down parts behind =
      let within : Contains (h ∷ hs) a = elim (parts.split a (contains_here a rest)) [
        | inl c ↦ c
        | inr c ↦ absurd (not_first a rest (h ∷ hs) gone up.0 parts c (let some = behind a c in omega arith))
      ] in
      let same : a ≡ h = same_heads a h rest hs up.0 down.0 within (parts.held_in h (contains_here h hs)) in
      let down_a : AllByRecursion (λ z. cmp a z ≡ Less) hs = subst (λ (x : E). AllByRecursion (λ z. cmp x z ≡ Less) hs) (sym same) down.0 in
      let parts_a : Parts (a ∷ rest) (a ∷ hs) gone = subst (λ (x : E). Parts (a ∷ rest) (x ∷ hs) gone) (sym same) parts in
      let more : take n rest ≡ take n hs = first_same n rest hs gone up.1 down.1 (first_parts a rest hs gone up.0 down_a parts_a)
      (λ z c. let many = behind z c in let most = count_most (λ other. not (is_lt (cmp z other))) h hs in omega arith) in
      ap (λ (x : E). x ∷ take n rest) same ∙ ap (λ (xs : List E). h ∷ xs) more
    where
      count_most : (p : E → Bool) (x : E) (xs : List E) → count_by p (x ∷ xs) ≤ 1 + count_by p xs
      count_most p x xs = elim (cases_Bool (p x)) [
        | inl is ↦ let e = count_true p x xs is in omega arith
        | inr is ↦ let e = count_false p x xs is in omega arith
      ]

  none_gone : (held gone : List E) → AllByRecursion (λ e. IsBehind cmp None held e) gone → gone ≡ []
  none_gone held [] all = refl
  none_gone held (e ∷ gone) all = absurd all.0

  limited_same : (limit : Option ℕ) (all held gone : List E) → Rising (λ a b. cmp a b ≡ Less) all → Rising (λ a b. cmp a b ≡ Less) held → Parts all held gone
      → AllByRecursion (λ e. IsBehind cmp limit held e) gone → limited limit all ≡ limited limit held
  limited_same None all held gone up down parts behind =
      let none = none_gone held gone behind in
      Rising-one (λ a b. cmp a b ≡ Less) less_itself (λ x y z. o.trans x y z) all held up down
      (λ z c. elim (parts.split z c) [ inl h ↦ h | inr g ↦ absurd (contains_none z (subst (λ (xs : List E). Contains xs z) none g)) ])
      parts.held_in
  limited_same (Some n) all held gone up down parts behind =
      first_same n all held gone up down parts (λ z c. all_at (λ e. IsBehind cmp (Some n) held e) gone z behind c)

  -- of entries of which no two are alike, and which were taken in any order: they have an arrangement, and its first n are the
  -- first n of those held
  pub first_of_held : (limit : Option ℕ) (entries taken held sorted : List E) → Rising (λ a b. is_eq (cmp a b) ≡ false) entries → IsPermutation entries taken
      → HoldsFirst cmp limit taken held → IsPermutation held sorted → IsSorted cmp sorted
      → (arranged : List E) × IsPermutation entries arranged × Rising (λ a b. cmp a b ≡ Less) arranged × (limited limit arranged ≡ limited limit sorted)
  first_of_held limit entries taken held sorted apart moved h same up =
      let flips = (eq_by_cmp_equiv o).symm in
      let whole : IsPermutation entries (sorted ++ h.gone) =
      IsPermutation-trans entries taken (sorted ++ h.gone) moved
      (IsPermutation-trans taken (held ++ h.gone) (sorted ++ h.gone) h.same (IsPermutation-append_left h.gone held sorted same)) in
      let apart_all = rising_permutation (eq_by_cmp cmp) flips entries (sorted ++ h.gone) whole apart in
      let down = strictly_from_sorted sorted up (rising_left (λ a b. is_eq (cmp a b) ≡ false) sorted h.gone apart_all) in
      let (arranged, is) = an_arrangement (λ a b. cmp a b ≡ Less) (λ x y z. o.trans x y z) entries
      (rising_two (λ a b. is_eq (cmp a b) ≡ false) (λ a b. is_eq (cmp a b) ≡ false) (λ a b. (cmp a b ≡ Less) ⊎ (cmp b a ≡ Less)) (λ a b p q. sides a b (cmp a b) refl p) entries apart apart) in
      let rising = Rising-from_adjacent (λ a b. cmp a b ≡ Less) (λ x y z. o.trans x y z) arranged is.ordered in
      let there : IsPermutation arranged (sorted ++ h.gone) = IsPermutation-trans arranged entries (sorted ++ h.gone) (IsPermutation-sym entries arranged is.same) whole in
      let back : IsPermutation (sorted ++ h.gone) arranged = IsPermutation-sym arranged (sorted ++ h.gone) there in
      let parts : Parts arranged sorted h.gone = record {
        split = λ z c. Contains-append_cases sorted h.gone z (Contains-permutation arranged (sorted ++ h.gone) z there c);
        held_in = λ z c. Contains-permutation (sorted ++ h.gone) arranged z back (Contains-append_left sorted h.gone z c);
        gone_in = λ z c. Contains-permutation (sorted ++ h.gone) arranged z back (Contains-append_right sorted h.gone z c);
        apart = λ z c d. unlike z (rising_across (λ a b. is_eq (cmp a b) ≡ false) sorted h.gone z z apart_all c d);
      } in
      let behind = behind_of limit held sorted (λ e. let c = count_permutation (λ other. not (is_lt (cmp e other))) held sorted same in omega arith) h.gone h.behind in
      (arranged, is.same, rising, limited_same limit arranged sorted h.gone rising down parts behind)
    where
      sides : (a b : E) (r : Ordering) → cmp a b ≡ r → is_eq (cmp a b) ≡ false → (cmp a b ≡ Less) ⊎ (cmp b a ≡ Less)
      sides a b Less is p = inl is
      sides a b Equal is p = absurd (true≢false (sym (ap is_eq is) ∙ p))
      sides a b Greater is p = inr (o.antisymm b a ∙ ap ordering_reverse is)

      unlike : (z : E) → is_eq (cmp z z) ≡ false → ⊥
      unlike z p = true≢false (sym (ap is_eq (tied_itself o z)) ∙ p)
