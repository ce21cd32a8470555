-- The pages of a table: none serves twice, and none does after a change. Where a change stands in the list of regions.
use Rattle.std.proofs.Common.{false, None, ◌≡◌, ◌≢◌, ◌≤◌, ◌<◌, ◌+◌, ◌∙◌, inl, ℕ, suc, List, [], ◌∷◌, ◌++◌, Some, length, take, drop, nat_eq, ap, sym, subst, refl, arith, slice_get}
use Rattle.ub_index_change.proofs.Common.{added_at, all_both, all_more, AllByRecursion, apart_swap, AreOwnPages, ArePlaces, changed, ChangeView, distinct_apart}
use Rattle.ub_index_change.proofs.Common.{distinct_first, distinct_join, distinct_left, distinct_right, entries_in, Entry, entry_at, first_keys, index_of_first}
use Rattle.ub_index_change.proofs.Common.{IndexView, IsCommitted, IsDistinct, IsForeign, IsIndexOn, IsOutside, IsReachedOnce, IsRegionAt, Key, length-append}
use Rattle.ub_index_change.proofs.Common.{ne_eqb, outside_less, page_count, pages_of_index, Region, region_pages, Replaces, StoreFacts, top, within_store}
use Rattle.ub_index.specs.Standing.{AreRegionsThere}
use Rattle.ub_index.proofs.IndexFacts.{first_at}
use Rattle.ub_index_change.proofs.ReadyFacts.{some_page}

-- a property of all pages, where one comes behind one of them, and where one goes
all_added : (Q : ℕ → Type 0) (before : List Entry) (f e : Entry) (after : List Entry) → AllByRecursion Q (region_pages (before ++ (f ∷ after))) → Q e.page
    → AllByRecursion Q (region_pages (before ++ (f ∷ e ∷ after)))
all_added Q [] f e after h q = (h.0, (q, h.1))
all_added Q (x ∷ before) f e after h q = (h.0, all_added Q before f e after h.1 q)

all_dropped : (Q : ℕ → Type 0) (before : List Entry) (f : Entry) (after : List Entry) → AllByRecursion Q (region_pages (before ++ (f ∷ after)))
    → AllByRecursion Q (region_pages (before ++ after))
all_dropped Q [] f after h = h.1
all_dropped Q (x ∷ before) f after h = (h.0, all_dropped Q before f after h.1)

distinct_added : (before : List Entry) (f e : Entry) (after : List Entry) → IsDistinct nat_eq (region_pages (before ++ (f ∷ after)))
    → IsOutside e.page (region_pages (before ++ (f ∷ after))) → IsDistinct nat_eq (region_pages (before ++ (f ∷ e ∷ after)))
unfolding IsDistinct
distinct_added [] f e after h out =
    ((ne_eqb f.page e.page (λ same. out.0 (sym same)), h.0), (all_more (λ m. e.page ≢ m) (λ m. nat_eq e.page m ≡ false) (λ m ne. ne_eqb e.page m ne) (region_pages after) out.1, h.1))
distinct_added (x ∷ before) f e after h out =
    (all_added (λ m. nat_eq x.page m ≡ false) before f e after h.0 (ne_eqb x.page e.page (λ same. out.0 (sym same))), distinct_added before f e after h.1 out.1)

distinct_dropped : (before : List Entry) (f : Entry) (after : List Entry) → IsDistinct nat_eq (region_pages (before ++ (f ∷ after))) → IsDistinct nat_eq (region_pages (before ++ after))
unfolding IsDistinct
distinct_dropped [] f after h = h.1
distinct_dropped (x ∷ before) f after h = (all_dropped (λ m. nat_eq x.page m ≡ false) before f after h.0, distinct_dropped before f after h.1)

-- what is known of a region's page: no change of the index puts it, and it isn't the first
record IsRegionPage (index : IndexView) (old : StoreFacts) (from : ℕ) (change : ChangeView) (n : ℕ) : Type 0 where
  some : n ≢ 0
  foreign : IsForeign index old from change n

module _ (index : IndexView) (old : StoreFacts) (is : IsIndexOn index old) (own : AreOwnPages index old) (there : AreRegionsThere index old) where
  pages_there : AllByRecursion (λ n. n < page_count old) (pages_of_index index old)
  pages_there = within_store index.last old.pages index.levels (top index.root) None is.under_it

  some_there : 1 ≤ page_count old
  some_there = some_page index.last old.pages index.levels (top index.root) is.some is.under_it

  reached : IsReachedOnce index old
  reached = distinct_left (0 ∷ pages_of_index index old) (region_pages (entries_in index old)) own

  module _ (from : ℕ) (change : ChangeView) (later : page_count old ≤ from) where
    each_region : AllByRecursion (IsRegionPage index old from change) (region_pages (entries_in index old))
    each_region =
        all_both (λ n. n < page_count old) (λ n. IsOutside n (0 ∷ pages_of_index index old)) (IsRegionPage index old from change)
        (λ n near apart. record { some = apart.0; foreign = (inl (omega arith), apart.1) }) (region_pages (entries_in index old)) there
        (apart_swap (0 ∷ pages_of_index index old) (region_pages (entries_in index old)) (distinct_apart (0 ∷ pages_of_index index old) (region_pages (entries_in index old)) own))

    new_page : page_count old < from → IsRegionPage index old from change (page_count old)
    new_page less = record {
      some = λ e. let low = some_there in omega arith;
      foreign = (inl less, outside_less (page_count old) (pages_of_index index old) pages_there);
    }

    -- a change puts none of the regions' pages, nor the first, nor that of the region that comes
    pub foreign_regions : AllByRecursion (IsForeign index old from change) (0 ∷ region_pages (entries_in index old)) × (page_count old < from → IsForeign index old from change (page_count old))
    foreign_regions = (
      (
        (inl (let low = some_there in omega arith), distinct_first 0 (pages_of_index index old) reached),
        all_more (IsRegionPage index old from change) (IsForeign index old from change) (λ n h. h.foreign) (region_pages (entries_in index old)) each_region,
      ),
      λ less. (new_page less).foreign,
    )

    -- so where it is made, no page serves twice, if none of the regions' does
    own_then : (f : Entry) (fs : List Entry) (filled new : StoreFacts) (made : IsCommitted index old from change f fs filled new)
        → IsDistinct nat_eq (region_pages (made.entries_are.before ++ (fs ++ made.entries_are.after)))
        → (AllByRecursion (IsRegionPage index old from change) (region_pages (made.entries_are.before ++ (f ∷ made.entries_are.after)))
        → AllByRecursion (IsRegionPage index old from change) (region_pages (made.entries_are.before ++ (fs ++ made.entries_are.after)))) → AreOwnPages (changed index change) new
    own_then f fs filled new made distinct kept =
        let r = made.entries_are in
        let each : AllByRecursion (IsRegionPage index old from change) (region_pages (entries_in (changed index change) new)) =
        subst (λ (xs : List Entry). AllByRecursion (IsRegionPage index old from change) (region_pages xs)) (sym r.is)
        (kept (subst (λ (xs : List Entry). AllByRecursion (IsRegionPage index old from change) (region_pages xs)) r.was each_region)) in
        distinct_join (0 ∷ pages_of_index (changed index change) new) (region_pages (entries_in (changed index change) new)) made.reached
        (subst (λ (xs : List Entry). IsDistinct nat_eq (region_pages xs)) (sym r.is) distinct)
        (apart_swap (region_pages (entries_in (changed index change) new)) (0 ∷ pages_of_index (changed index change) new)
        (all_more (IsRegionPage index old from change) (λ n. IsOutside n (0 ∷ pages_of_index (changed index change) new)) (λ n h. (h.some, made.no_other n h.foreign))
        (region_pages (entries_in (changed index change) new)) each))

  regions_own : IsDistinct nat_eq (region_pages (entries_in index old))
  regions_own = distinct_right (0 ∷ pages_of_index index old) (region_pages (entries_in index old)) own

  pub own_added : (change : ChangeView) (f : Entry) (first : Key) (filled new : StoreFacts)
      → IsCommitted index old (page_count old + 1) change f (f ∷ added_at first old ∷ []) filled new → AreOwnPages (changed index change) new
  own_added change f first filled new made =
      let r = made.entries_are in
      let distinct : IsDistinct nat_eq (region_pages (r.before ++ (f ∷ r.after))) = subst (λ (xs : List Entry). IsDistinct nat_eq (region_pages xs)) r.was regions_own in
      let less : AllByRecursion (λ n. n < page_count old) (region_pages (r.before ++ (f ∷ r.after))) =
      subst (λ (xs : List Entry). AllByRecursion (λ n. n < page_count old) (region_pages xs)) r.was there in
      own_then (page_count old + 1) change (omega arith) f (f ∷ added_at first old ∷ []) filled new made
      (distinct_added r.before f (added_at first old) r.after distinct (outside_less (page_count old) (region_pages (r.before ++ (f ∷ r.after))) less))
      (λ each. all_added (IsRegionPage index old (page_count old + 1) change) r.before f (added_at first old) r.after each (new_page (page_count old + 1) change (omega arith) (omega arith)))

  pub own_dropped : (change : ChangeView) (f : Entry) (filled new : StoreFacts) → IsCommitted index old (page_count old) change f [] filled new → AreOwnPages (changed index change) new
  own_dropped change f filled new made =
      let r = made.entries_are in
      let distinct : IsDistinct nat_eq (region_pages (r.before ++ (f ∷ r.after))) = subst (λ (xs : List Entry). IsDistinct nat_eq (region_pages xs)) r.was regions_own in
      own_then (page_count old) change (omega arith) f [] filled new made (distinct_dropped r.before f r.after distinct)
      (λ each. all_dropped (IsRegionPage index old (page_count old) change) r.before f r.after each)

-- how many entries there are where others stand in the place of one
pub count_replaced : (f : Entry) (fs old new : List Entry) → Replaces f fs old new → length new + 1 ≡ length old + length fs
count_replaced f fs old new r =
    let was = ap length r.was in
    let is = ap length r.is in
    omega (arith, length-append r.before (f ∷ r.after), length-append r.before (fs ++ r.after), length-append fs r.after)

key_in : (before : List Entry) (f : Entry) (after : List Entry) → slice_get (first_keys (before ++ (f ∷ after))) (length before) ≡ Some f.first
key_in [] f after = refl
key_in (x ∷ before) f after = key_in before f after

put_there : (before fs : List Entry) (f : Entry) (after : List Entry)
    → before ++ (fs ++ after) ≡ take (length before) (before ++ (f ∷ after)) ++ (fs ++ drop (suc (length before)) (before ++ (f ∷ after)))
put_there [] fs f after = refl
put_there (x ∷ before) fs f after = ap (λ (xs : List Entry). x ∷ xs) (put_there before fs f after)

-- what stands in the place of the entry of a region stands at its index
pub replaced_at : (last : ℕ) (entries new : List Entry) (i : ℕ) (region : Region) (fs : List Entry) → ArePlaces last entries → IsRegionAt entries i region
    → Replaces (entry_at region) fs entries new → new ≡ take i entries ++ (fs ++ drop (suc i) entries)
replaced_at last entries new i region fs places at r =
    let here : slice_get (first_keys entries) (length r.before) ≡ Some region.first =
    subst (λ (xs : List Entry). slice_get (first_keys xs) (length r.before) ≡ Some region.first) (sym r.was) (key_in r.before (entry_at region) r.after) in
    let same : length r.before ≡ i =
    sym (index_of_first (first_keys entries) (length r.before) region.first places.2 here)
    ∙ index_of_first (first_keys entries) i region.first places.2 (first_at entries i (entry_at region) at.entry) in
    let parts : r.before ++ (fs ++ r.after) ≡ take (length r.before) entries ++ (fs ++ drop (suc (length r.before)) entries) =
    subst (λ (xs : List Entry). r.before ++ (fs ++ r.after) ≡ take (length r.before) xs ++ (fs ++ drop (suc (length r.before)) xs)) (sym r.was)
    (put_there r.before fs (entry_at region) r.after) in
    r.is ∙ (parts ∙ ap (λ (n : ℕ). take n entries ++ (fs ++ drop (suc n) entries)) same)
