-- What is taken of rows doesn't depend on their order.
use Rattle.std.proofs.Common.{◌≡◌, ◌+◌, ℕ, suc, ℤ, pos, negsuc, neg_ℤ, ◌+ℤ◌, ◌≤ℤ◌, Bool, cond, List, [], ◌∷◌, length, map, filter, inl, inr, IsPermutation, Contains, refl, sym, ap, subst, arith, ◌∙◌}
use Rattle.std.proofs.lemmas.Bool.{cases_Bool}
use Rattle.std.proofs.lemmas.Int.{ints}
use Rattle.std.proofs.lemmas.List.{length-map}
use Rattle.std.proofs.lemmas.List.Elements.{All-contains}
use Rattle.std.proofs.lemmas.List.Sorted.{IsPermutation-sym, Contains-permutation, sum_by-IsPermutation}
use Rattle.std.proofs.lemmas.List.Sums.{sum_by-cons, length-filter}
use Rattle.std.specs.List.{sum_by}
use Rattle.ub_query.proofs.Laws.{contains_map, contains_from_map, contains_filter, contains_from_filter, min_is_least, max_is_greatest}
use Rattle.ub_query.specs.Cells.{group_cell, total, least_of, greatest_of, taken_of}
use Rattle.ub_query.specs.declared.cell.Cell.TheVariants.{Number}
use Rattle.ub_query.specs.declared.query.Aggregate.{Aggregate as Taken}
use Rattle.ub_query.specs.declared.query.Aggregate.TheVariants.{Sum, Min, Max}
use Rattle.ub_query.specs.declared.query.Item.{Item}
use Rattle.ub_query.specs.declared.query.Item.TheVariants.{Column, Count, Aggregate}
use Rattle.ub_table.specs.Table.{column_value}
use Rattle.ub_table.specs.declared.row.Row.{Row}
use Rattle.ub_table.specs.declared.schema.Schema.{Schema}

-- ---- sums

abbrev above : ℤ → ℕ
above (pos n) = n
above (negsuc n) = 0

abbrev below : ℤ → ℕ
below (pos n) = 0
below (negsuc n) = suc n

parts : (z : ℤ) → z ≡ pos (above z) +ℤ neg_ℤ (pos (below z))
parts (pos n) = omega (arith, ints)
parts (negsuc n) = omega (arith, ints)

step : (z t : ℤ) (u d a b c e : ℕ) → z ≡ pos u +ℤ neg_ℤ (pos d) → t ≡ pos a +ℤ neg_ℤ (pos b) → c ≡ u + a → e ≡ d + b → z +ℤ t ≡ pos c +ℤ neg_ℤ (pos e)
step z t u d a b c e p q r s = omega (arith, ints)

stay : (t : ℤ) (a b c e : ℕ) → t ≡ pos a +ℤ neg_ℤ (pos b) → c ≡ 0 + a → e ≡ 0 + b → t ≡ pos c +ℤ neg_ℤ (pos e)
stay t a b c e q r s = omega (arith, ints)

module _ {A : Type 0} (f : A → ℤ) (p : A → Bool) where
  up : A → ℕ
  up x = cond (p x) (above (f x)) 0

  down : A → ℕ
  down x = cond (p x) (below (f x)) 0

  total-parts : (xs : List A) → total (map f (filter p xs)) ≡ pos (sum_by up xs) +ℤ neg_ℤ (pos (sum_by down xs))
  unfolding up down
  total-parts [] = refl
  total-parts (x ∷ xs) = elim (cases_Bool (p x)) [
    | inl is ↦
        ap (λ (b : Bool). total (map f (cond b (x ∷ filter p xs) (filter p xs)))) is
        ∙ step (f x) (total (map f (filter p xs))) (above (f x)) (below (f x)) (sum_by up xs) (sum_by down xs) (sum_by up (x ∷ xs)) (sum_by down (x ∷ xs))
        (parts (f x)) (total-parts xs) (sum_by-cons up x xs ∙ ap (λ (b : Bool). cond b (above (f x)) 0 + sum_by up xs) is)
        (sum_by-cons down x xs ∙ ap (λ (b : Bool). cond b (below (f x)) 0 + sum_by down xs) is)
    | inr is ↦
        ap (λ (b : Bool). total (map f (cond b (x ∷ filter p xs) (filter p xs)))) is
        ∙ stay (total (map f (filter p xs))) (sum_by up xs) (sum_by down xs) (sum_by up (x ∷ xs)) (sum_by down (x ∷ xs))
        (total-parts xs) (sum_by-cons up x xs ∙ ap (λ (b : Bool). cond b (above (f x)) 0 + sum_by up xs) is)
        (sum_by-cons down x xs ∙ ap (λ (b : Bool). cond b (below (f x)) 0 + sum_by down xs) is)
  ]

  total-permuted : (xs ys : List A) → IsPermutation xs ys → total (map f (filter p xs)) ≡ total (map f (filter p ys))
  total-permuted xs ys same =
      total-parts xs
      ∙ sym (ap (λ (n : ℕ). pos n +ℤ neg_ℤ (pos (sum_by down xs))) (sum_by-IsPermutation up xs ys same))
      ∙ sym (ap (λ (n : ℕ). pos (sum_by up ys) +ℤ neg_ℤ (pos n)) (sum_by-IsPermutation down xs ys same))
      ∙ sym (total-parts ys)

  pub length-permuted : (xs ys : List A) → IsPermutation xs ys → length (filter p xs) ≡ length (filter p ys)
  length-permuted xs ys same = length-filter p xs ∙ sym (sum_by-IsPermutation (λ x. cond (p x) 1 0) xs ys same) ∙ sym (length-filter p ys)

  elements-permuted : (xs ys : List A) → IsPermutation xs ys → (z : ℤ) → Contains (map f (filter p xs)) z → Contains (map f (filter p ys)) z
  elements-permuted xs ys same z c =
      let (x, here, is) = contains_from_map f (filter p xs) z c in
      let there = contains_from_filter p xs x here in
      subst (λ (w : ℤ). Contains (map f (filter p ys)) w) is
      (contains_map f (filter p ys) x (contains_filter p ys x (Contains-permutation xs ys x same there.0) there.1))

-- ---- least and greatest

equal_between : (a b : ℤ) → a ≤ℤ b → b ≤ℤ a → a ≡ b
equal_between a b g h = omega (arith, ints)

least-same : (xs ys : List ℤ) (a b : ℤ) → least_of xs ≡ Number a → least_of ys ≡ Number b → ((z : ℤ) → Contains xs z → Contains ys z)
    → ((z : ℤ) → Contains ys z → Contains xs z) → a ≡ b
least-same xs ys a b p q f g =
    let m = min_is_least xs a p in let n = min_is_least ys b q in
    equal_between a b (All-contains (λ x. a ≤ℤ x) xs b m.1 (g b n.0)) (All-contains (λ x. b ≤ℤ x) ys a n.1 (f a m.0))

greatest-same : (xs ys : List ℤ) (a b : ℤ) → greatest_of xs ≡ Number a → greatest_of ys ≡ Number b → ((z : ℤ) → Contains xs z → Contains ys z)
    → ((z : ℤ) → Contains ys z → Contains xs z) → a ≡ b
greatest-same xs ys a b p q f g =
    let m = max_is_greatest xs a p in let n = max_is_greatest ys b q in
    equal_between a b (All-contains (λ y. y ≤ℤ b) ys a n.1 (f a m.0)) (All-contains (λ x. x ≤ℤ a) xs b m.1 (g b n.0))

-- lists of one length and one total, with the same elements
taken-same : (taken : Taken) (xs ys : List ℤ) → length xs ≡ length ys → total xs ≡ total ys → ((z : ℤ) → Contains xs z → Contains ys z)
    → ((z : ℤ) → Contains ys z → Contains xs z) → taken_of taken xs ≡ taken_of taken ys
taken-same Sum [] [] long sums f g = refl
taken-same Sum [] (y ∷ ys) long sums f g = absurd (omega arith)
taken-same Sum (x ∷ xs) [] long sums f g = absurd (omega arith)
taken-same Sum (x ∷ xs) (y ∷ ys) long sums f g = ap Number sums
taken-same Min [] [] long sums f g = refl
taken-same Min [] (y ∷ ys) long sums f g = absurd (omega arith)
taken-same Min (x ∷ xs) [] long sums f g = absurd (omega arith)
taken-same Min (x ∷ xs) (y ∷ ys) long sums f g = ap Number (least-same (x ∷ xs) (y ∷ ys) _ _ refl refl f g)
taken-same Max [] [] long sums f g = refl
taken-same Max [] (y ∷ ys) long sums f g = absurd (omega arith)
taken-same Max (x ∷ xs) [] long sums f g = absurd (omega arith)
taken-same Max (x ∷ xs) (y ∷ ys) long sums f g = ap Number (greatest-same (x ∷ xs) (y ∷ ys) _ _ refl refl f g)

-- ---- cells

pub cell-permuted : (schema : Schema) (columns : List ℕ) (values : List ℤ) (p : Row → Bool) (xs ys : List Row) → IsPermutation xs ys → (item : Item)
    → group_cell schema columns (record { values = values; rows = filter p xs }) item ≡ group_cell schema columns (record { values = values; rows = filter p ys }) item
cell-permuted schema columns values p xs ys same (Column column) = refl
cell-permuted schema columns values p xs ys same Count = ap (λ (n : ℕ). Number (pos n)) (length-permuted (λ row. pos 0) p xs ys same)
cell-permuted schema columns values p xs ys same (Aggregate taken column) =
    let f : Row → ℤ = λ row. column_value schema row column in
    taken-same taken (map f (filter p xs)) (map f (filter p ys))
    (length-map (filter p xs) f ∙ length-permuted f p xs ys same ∙ sym (length-map (filter p ys) f))
    (total-permuted f p xs ys same) (elements-permuted f p xs ys same) (elements-permuted f p ys xs (IsPermutation-sym xs ys same))
