-- What the bytes of a page tell of its entries: which of them a key falls to, and whether the page fits.
use Rattle.std.proofs.Common.{rules, ◌≡◌, ◌≤◌, ◌<◌, ◌+◌, ◌-◌, ◌++◌, ◌⊎◌, inl, inr, ℕ, zero, suc, List, [], ◌∷◌, Option, Some, None, IfSome, length, take, drop, slice_get, ◌∙◌, sym, ap, subst, refl, arith}
use Rattle.ub_index.proofs.Common.{AreAscending, AscendTo, cases_lt, drop_all, Entry, entry_in, FallsTo, first_in, first_or, Fits, index_page, IsBefore, IsNode}
use Rattle.ub_index.proofs.Common.{IsNotTaken, IsPage, IsSlot, IsUnfit, Key, length-node_on, node_get, node_on, number_at, page_in, PageFault, StoreFacts}

cut : (xs : List Entry) (i : ℕ) (e : Entry) → slice_get xs i ≡ Some e → xs ≡ take i xs ++ (e ∷ drop (suc i) xs)
cut [] i e at = cc
cut (x ∷ xs) zero e at = let same : x ≡ e = cc in ap (λ (y : Entry). y ∷ xs) same
cut (x ∷ xs) (suc i) e at = ap (λ (ys : List Entry). x ∷ ys) (cut xs i e at)

rest_first : (xs : List Entry) (i : ℕ) (e : Entry) (end : Option Key) → slice_get xs i ≡ Some e → first_or (drop i xs) end ≡ Some e.first
rest_first [] i e end at = cc
rest_first (x ∷ xs) zero e end at = let same : x ≡ e = cc in ap (λ (y : Entry). Some y.first) same
rest_first (x ∷ xs) (suc i) e end at = rest_first xs i e end at

rest_none : (xs : List Entry) (i : ℕ) (end : Option Key) → length xs ≤ i → first_or (drop i xs) end ≡ end
rest_none xs i end h = ap (λ (ys : List Entry). first_or ys end) (drop_all i xs h)

pub after_first : (page : List ℕ) (slot : ℕ) (end : Option Key) → slot < number_at 2 2 page → Some (first_in slot page) ≡ first_or (drop slot (node_on page).entries) end
after_first page slot end h = sym (rest_first (node_on page).entries slot (entry_in slot page) end (node_get page slot h))

pub after_none : (page : List ℕ) (slot : ℕ) (end : Option Key) → number_at 2 2 page ≤ slot → end ≡ first_or (drop slot (node_on page).entries) end
after_none page slot end h = sym (rest_none (node_on page).entries slot end (omega (arith, length-node_on page)))

pub falls : (page : List ℕ) (key : Key) (end next : Option Key) (count slot : ℕ) → count ≡ number_at 2 2 page → IsSlot key count page slot
    → next ≡ first_or (drop (slot + 1) (node_on page).entries) end → FallsTo key (node_on page).entries end (entry_in slot page) next
falls page key end next count slot same h is = record {
  before = take slot (node_on page).entries;
  after = drop (suc slot) (node_on page).entries;
  parts = cut (node_on page).entries slot (entry_in slot page) (node_get page slot (let lt = h.within in omega arith));
  next_is = is ∙ ap (λ (i : ℕ). first_or (drop i (node_on page).entries) end) one;
  from = from_of slot h.begun;
  to = to;
}
  where
    one : slot + 1 ≡ suc slot
    one = omega arith

    from_of : (i : ℕ) → (1 ≤ i → ¬ (IsBefore key (first_in i page))) → (take i (node_on page).entries ≡ []) ⊎ (¬ (IsBefore key (first_in i page)))
    from_of zero f = inl refl
    from_of (suc i) f = inr (f (omega arith))

    to : IfSome (first_or (drop (suc slot) (node_on page).entries) None) (IsBefore key)
    to = elim (cases_lt (slot + 1) count) [
      | inl lt ↦
          subst (λ (o : Option Key). IfSome o (IsBefore key))
          (after_first page (slot + 1) None (omega arith) ∙ ap (λ (i : ℕ). first_or (drop i (node_on page).entries) None) one) (h.next lt)
      | inr ge ↦
          subst (λ (o : Option Key). IfSome o (IsBefore key))
          (after_none page (slot + 1) None (omega arith) ∙ ap (λ (i : ℕ). first_or (drop i (node_on page).entries) None) one) tt
    ]

-- and with the entries before it and after it
pub falls_around : (page : List ℕ) (key : Key) (end next : Option Key) (count slot : ℕ) (below : Entry) (before after : List Entry) → below ≡ entry_in slot page
    → count ≡ number_at 2 2 page → IsSlot key count page slot → next ≡ first_or (drop (slot + 1) (node_on page).entries) end
    → before ≡ take slot (node_on page).entries → after ≡ drop (slot + 1) (node_on page).entries
    → (x : FallsTo key (node_on page).entries end below next) × (x.before ≡ before) × (x.after ≡ after)
unfolding falls
falls_around page key end next count slot below before after entry same h is left right =
    let one : suc slot ≡ slot + 1 = omega arith in
    subst (λ (e : Entry). (x : FallsTo key (node_on page).entries end e next) × (x.before ≡ before) × (x.after ≡ after)) (sym entry)
    (falls page key end next count slot same h is, sym left, ap (λ (i : ℕ). drop i (node_on page).entries) one ∙ sym right)

-- the last of entries in order is before the end; and entries of which it is so are in order up to the end
last_before : (xs : List Entry) (i : ℕ) (e : Entry) (end : Option Key) → length xs ≡ suc i → slice_get xs i ≡ Some e → AscendTo xs end → IfSome end (IsBefore e.first)
last_before (x ∷ []) zero e end long at up = let same : x ≡ e = cc in subst (λ (y : Entry). IfSome end (IsBefore y.first)) same up.0
last_before (x ∷ y ∷ xs) zero e end long at up = absurd (omega arith)
last_before (x ∷ y ∷ xs) (suc i) e end long at up = last_before (y ∷ xs) i e end (omega arith) at up.1
last_before xs i e end long at up = cc

ascend_up_to : (xs : List Entry) (i : ℕ) (e : Entry) (end : Option Key) → length xs ≡ suc i → slice_get xs i ≡ Some e → AreAscending xs → IfSome end (IsBefore e.first) → AscendTo xs end
ascend_up_to [] i e end long at up to = tt
ascend_up_to (x ∷ []) zero e end long at up to = let same : e ≡ x = cc in (subst (λ (y : Entry). IfSome end (IsBefore y.first)) same to, tt)
ascend_up_to (x ∷ []) (suc i) e end long at up to = cc
ascend_up_to (x ∷ y ∷ xs) zero e end long at up to = absurd (omega arith)
ascend_up_to (x ∷ y ∷ xs) (suc i) e end long at up to = (up.0, ascend_up_to (y ∷ xs) i e end (omega arith) at up.1 to)

module _ (page : List ℕ) (last level count : ℕ) (entry : Entry) (end : Option Key) (same : count ≡ number_at 2 2 page) (is : IsNode last (node_on page)) where
  pub some_count : 1 ≤ count
  some_count = let some = is.some in omega (arith, length-node_on page)

  pub few_count : count ≤ 170
  few_count = let few = is.few in omega (arith, length-node_on page)

  pub first_here : first_or (node_on page).entries None ≡ Some (first_in 0 page)
  first_here = sym (after_first page 0 None (let some = some_count in omega arith))

  last_here : slice_get (node_on page).entries (count - 1) ≡ Some (entry_in (count - 1) page)
  last_here = node_get page (count - 1) (let some = some_count in omega arith)

  long : length (node_on page).entries ≡ suc (count - 1)
  long = let some = some_count in omega (arith, length-node_on page)

  pub fits_so : page ≡ index_page (node_on page) → (node_on page).level ≡ level → first_in 0 page ≡ entry.first → IfSome end (IsBefore (first_in (count - 1) page))
      → Fits last page level entry end
  fits_so spelled level_is begins to = search (rules, first_here, ascend_up_to, long, last_here)

  pub last_ends : AscendTo (node_on page).entries end → IfSome end (IsBefore (first_in (count - 1) page))
  last_ends up = last_before (node_on page).entries (count - 1) (entry_in (count - 1) page) end long last_here up

-- the page that stands under a number is the page of that number
pub page_is : (pages : List (List ℕ)) (n : ℕ) (page : List ℕ) → slice_get pages n ≡ Some page → page_in pages n ≡ page
page_is (p ∷ pages) (suc n) page at = page_is pages n page at
page_is pages n page at = cc

pub is_refused : (pages : List (List ℕ)) (last level : ℕ) (entry : Entry) (end : Option Key) (page : List ℕ) (fault : PageFault)
    → slice_get pages entry.page ≡ Some page → IsUnfit last page level entry end fault → IsNotTaken last pages level entry end (Some fault)
is_refused pages last level entry end page fault at misfit =
    let is = page_is pages entry.page page at in
    (at ∙ ap (λ (p : List ℕ). Some p) (sym is), subst (λ (p : List ℕ). IsUnfit last p level entry end fault) (sym is) misfit)

-- what a store's page is doesn't depend on its counts
pub same_page : (old new : StoreFacts) (n reads : ℕ) (page : List ℕ) → new ≡ record old { failed_reads = reads } → IsPage new n page → IsPage old n page
same_page old new n reads page same h = subst (λ (s : StoreFacts). IsPage s n page) same h
