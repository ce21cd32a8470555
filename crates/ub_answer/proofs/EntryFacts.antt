-- How groups stand in the order asked.
use Rattle.std.proofs.Common.{◌≡◌, ◌<◌, ◌+◌, ◌<ℤ◌, ◌⊎◌, inl, inr, ℕ, suc, ℤ, Bool, true, ◌&&◌, cond, List, [], ◌∷◌, length, slice_index_or, Contains, refl, sym, ap, subst, arith, rules, ◌∙◌}
use Rattle.std.proofs.lemmas.Bool.{cases_Bool, true≢false}
use Rattle.std.proofs.lemmas.Cmp.{int_ranked, int_cmp_total, lists_total, on_total}
use Rattle.std.specs.Cmp.{IsTotalOrder}
use Rattle.std.specs.Cmp.Lexicographic.{slice_cmp}
use Rattle.std.specs.Ordering.{int_cmp, int_eq, is_eq, ordering_then}
use Rattle.std.specs.declared.cmp.Ordering.{Ordering}
use Rattle.std.specs.declared.cmp.Ordering.TheVariants.{Less, Equal, Greater}
use Rattle.ub_answer.proofs.CompareFacts.{keys_total}
use Rattle.ub_answer.specs.inner.Groups.{values_cmp, cell_from, Entry, entry_cmp}
use Rattle.ub_answer.specs.declared.groups.Values.{Values}
use Rattle.ub_query.proofs.Laws.{contains_cases}
use Rattle.ub_query.specs.Groups.{are_same}
use Rattle.ub_query.specs.Order.{AreBelow}
use Rattle.ub_query.specs.declared.cell.Cell.{Cell}
use Rattle.ub_query.specs.declared.cell.Cell.TheVariants.{Null}
use Rattle.ub_query.specs.contracts.query.ItemPartialEq.TheImpl as derived
use Rattle.ub_query.specs.declared.query.Item.{Item}
use Rattle.ub_query.specs.declared.query.SortKey.{SortKey}

-- ---- values

pub values_total : IsTotalOrder values_cmp
values_total = on_total (λ (v : Values). v.all.items) (lists_total int_cmp_total)

pub entries_total : (items : List Item) (keys : List SortKey) → IsTotalOrder (entry_cmp items keys)
entries_total items keys = keys_total (λ (e : Entry) item. cell_from 0 items e.1 item) (λ a b. values_cmp a.0 b.0) (on_total (λ (e : Entry). e.0) values_total) keys

first_decides : (r s : Ordering) → is_eq (ordering_then r s) ≡ is_eq r && is_eq s
first_decides Less s = refl
first_decides Equal s = refl
first_decides Greater s = refl

-- values that compare equal are the same
pub equal-are_same : (xs ys : List ℤ) → is_eq (slice_cmp int_cmp xs ys) ≡ are_same xs ys
equal-are_same [] [] = refl
equal-are_same [] (y ∷ ys) = refl
equal-are_same (x ∷ xs) [] = refl
equal-are_same (x ∷ xs) (y ∷ ys) =
    first_decides (int_cmp x y) (slice_cmp int_cmp xs ys) ∙ ap (λ (b : Bool). int_eq x y && b) (equal-are_same xs ys)

-- lists of one length of which the first compares less are below
pub less-are-below : (xs ys : List ℤ) → length xs ≡ length ys → slice_cmp int_cmp xs ys ≡ Less → AreBelow xs ys
less-are-below [] [] long e = cc
less-are-below [] (y ∷ ys) long e = absurd (omega arith)
less-are-below (x ∷ xs) [] long e = absurd (omega arith)
less-are-below (x ∷ xs) (y ∷ ys) long e = by_first (int_cmp x y) refl e (λ h. less-are-below xs ys (omega arith) h)
  where
    by_first : (r : Ordering) → int_cmp x y ≡ r → ordering_then r (slice_cmp int_cmp xs ys) ≡ Less → (slice_cmp int_cmp xs ys ≡ Less → AreBelow xs ys)
        → (x <ℤ y) ⊎ ((x ≡ y) × AreBelow xs ys)
    by_first Less is h rest = inl (int_ranked x y Less (sym is))
    by_first Equal is h rest = inr (int_ranked x y Equal (sym is), rest h)
    by_first Greater is h rest = cc

-- ---- items

same_item-is : (a b : Item) → derived.eq-value.it a b ≡ true → a ≡ b
same_item-is a b e = search rules

same_item-itself : (a : Item) → derived.eq-value.it a a ≡ true
same_item-itself a = search rules

-- the cell for an item of a list is what each place shows of its item
pub cell_from-is : (place : ℕ) (items : List Item) (cells : List Cell) (item : Item) (f : Item → Cell)
    → ((k : ℕ) (d : Item) (e : Cell) → k < length items → slice_index_or cells (place + k) e ≡ f (slice_index_or items k d)) → Contains items item
    → cell_from place items cells item ≡ f item
cell_from-is place [] cells item f shown (k, within, is) = absurd (omega arith)
cell_from-is place (other ∷ items) cells item f shown here = elim (cases_Bool (derived.eq-value.it other item)) [
  | inl same ↦
      let zero_more : place + 0 ≡ place = omega arith in
      ap (λ (b : Bool). cond b (slice_index_or cells place Null) (cell_from (place + 1) items cells item)) same
      ∙ ap (λ (n : ℕ). slice_index_or cells n Null) (sym zero_more) ∙ shown 0 item Null (omega arith) ∙ ap f (same_item-is other item same)
  | inr apart ↦
      let there : Contains items item = elim (contains_cases other items item here) [
        | inl e ↦ absurd (true≢false (sym (subst (λ (i : Item). derived.eq-value.it i item ≡ true) (sym e) (same_item-itself item)) ∙ apart))
        | inr c ↦ c
      ] in
      ap (λ (b : Bool). cond b (slice_index_or cells place Null) (cell_from (place + 1) items cells item)) apart
      ∙ cell_from-is (place + 1) items cells item f
      (λ k d e below. ap (λ (n : ℕ). slice_index_or cells n e) (let same : place + 1 + k ≡ place + suc k = omega arith in same) ∙ shown (suc k) d e (omega arith))
      there
]
