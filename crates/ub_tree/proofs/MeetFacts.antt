-- The elements of a list that have a property, one after the other: which one comes next, and which have come; and spans in order.
use Rattle.std.proofs.Common.{rules, ◌≡◌, ◌<◌, ◌≤◌, inl, inr, ℕ, zero, suc, List, [], ◌∷◌, ◌++◌, Option, Some, None, IfSome, Contains, length, map, take, ◌∙◌, sym, ap, refl, arith, subst, slice_get}
use Rattle.ub_tree.proofs.Common.{AreThose, cases_eq, cases_lt, common_steps, entry_of, get_or_from_slice_get, IsBefore, IsLater, not_before_self}
use Rattle.ub_tree.proofs.Common.{not_both_before, Placed, Region, regions_of, slice_get_cases, slice_get_read, slice_get_within}
use Rattle.ub_check.proofs.CheckingFacts.{take_at}

-- the span before the one at a place, if there is one
abbrev pub before : ℕ → List Region → Option Region
before zero spans = None
before (suc k) spans = slice_get spans k

module _ {X : Type 0} where
  pub contained_at : (xs : List X) (x : X) (found : Contains xs x) → slice_get xs found.0 ≡ Some x
  contained_at xs x found = slice_get_read xs (length xs) found.0 x refl found.1 (sym found.2)

  pub contains_at : (xs : List X) (i : ℕ) (x : X) → slice_get xs i ≡ Some x → Contains xs x
  contains_at xs i x at = (i, slice_get_within xs i x at, get_or_from_slice_get xs i x x at)

  pub there_is : (xs : List X) (k : ℕ) → k < length xs → (x : X) × (slice_get xs k ≡ Some x)
  there_is xs k below = elim ((slice_get_cases xs k).1) [
    | inl some ↦ (some.0, some.2)
    | inr past ↦ let far = past.0 in absurd (omega arith)
  ]

  some_at : (P : X → Type 0) (o : Option X) (x : X) → o ≡ Some x → IfSome o P → P x
  some_at P None x e h = cc
  some_at P (Some y) x e h = let same : y ≡ x = cc in subst P same h

  pub take_all : (n : ℕ) (xs : List X) → length xs ≤ n → take n xs ≡ xs
  take_all n xs h = grind (arith, common_steps)

  module _ (P : X → Type 0) where
    -- one more entry that has the property, and one that doesn't
    those_with : (xs those : List X) (x : X) → P x → AreThose P xs those → AreThose P (xs ++ x ∷ []) (those ++ x ∷ [])
    those_with [] those x p are = inl (p, [], rw are refl, refl)
    those_with (y ∷ xs) those x p (inl are) = let (q, rest, is, more) = are in inl (q, rest ++ x ∷ [], ap (λ (zs : List X). zs ++ x ∷ []) is, those_with xs rest x p more)
    those_with (y ∷ xs) those x p (inr are) = inr (are.0, those_with xs those x p are.1)

    those_without : (xs those : List X) (x : X) → ¬ (P x) → AreThose P xs those → AreThose P (xs ++ x ∷ []) those
    those_without [] those x p are = inr (p, are)
    those_without (y ∷ xs) those x p (inl are) = let (q, rest, is, more) = are in inl (q, rest, is, those_without xs rest x p more)
    those_without (y ∷ xs) those x p (inr are) = inr (are.0, those_without xs those x p are.1)

    -- between two places none has the property
    pub those_up_to : (xs those : List X) (i place : ℕ) → place ≤ i → i ≤ length xs → ((m : ℕ) (x : X) → place ≤ m → m < i → slice_get xs m ≡ Some x → ¬ (P x))
        → AreThose P (take place xs) those → AreThose P (take i xs) those
    those_up_to xs those zero place le within none are = let e : place ≡ 0 = omega arith in subst (λ (n : ℕ). AreThose P (take n xs) those) e are
    those_up_to xs those (suc i) place le within none are = elim (cases_eq place (suc i)) [
      | inl e ↦ subst (λ (n : ℕ). AreThose P (take n xs) those) e are
      | inr ne ↦
          let there = there_is xs i (omega arith) in
          let x = there.0 in
          let more = those_up_to xs those i place (omega arith) (omega arith) (λ m y from below. none m y from (omega arith)) are in
          subst (λ (ys : List X). AreThose P ys those) (sym (take_at xs i x there.1)) (those_without (take i xs) those x (none i x (omega arith) (omega arith) there.1) more)
    ]

    -- the next one that has the property
    pub those_next : (xs those : List X) (i place : ℕ) (x : X) → place ≤ i → slice_get xs i ≡ Some x → P x → ((m : ℕ) (y : X) → place ≤ m → m < i → slice_get xs m ≡ Some y → ¬ (P y))
        → AreThose P (take place xs) those → AreThose P (take (suc i) xs) (those ++ x ∷ [])
    those_next xs those i place x from at p none are =
        let within = slice_get_within xs i x at in
        subst (λ (ys : List X). AreThose P ys (those ++ x ∷ [])) (sym (take_at xs i x at))
        (those_with (take i xs) those x p (those_up_to xs those i place from (omega arith) none are))

-- ---- spans whose first keys ascend

module _ (spans : List Region) (ordered : (i j : ℕ) (a b : Region) → i < j → slice_get spans i ≡ Some a → slice_get spans j ≡ Some b → IsBefore a.first b.first) where
  -- the spans from a place on are later than the one before it
  pub is_later : (k i : ℕ) (r : Region) → k ≤ i → slice_get spans i ≡ Some r → IsLater (before k spans) r
  is_later k i r h l = search rules

  -- and they alone
  pub later_from : (k i : ℕ) (x : Region) → k ≤ length spans → slice_get spans i ≡ Some x → IsLater (before k spans) x → k ≤ i
  later_from zero i x far there h = omega arith
  later_from (suc k) i x far there h =
      let (a, at_k) = there_is spans k (omega arith) in
      let after : IsBefore a.first x.first = some_at (λ (other : Region). IsBefore other.first x.first) (slice_get spans k) a at_k h in
      elim (cases_lt k i) [
        | inl lt ↦ omega arith
        | inr ge ↦ elim (cases_eq i k) [
          | inl e ↦
              let again : slice_get spans k ≡ Some x = ap (slice_get spans) (sym e) ∙ there in
              let same : a ≡ x = cc in
              absurd (not_before_self a.first (subst (λ (s : Region). IsBefore a.first s.first) (sym same) after))
          | inr ne ↦ absurd (not_both_before a.first x.first after (ordered i k x a (omega arith) there at_k))
        ]
      ]

pub spans_long : (last : ℕ) (placed : List Placed) → length (regions_of last (map entry_of placed)) ≡ length placed
spans_long last [] = refl
spans_long last (p ∷ placed) = ap suc (spans_long last placed)
