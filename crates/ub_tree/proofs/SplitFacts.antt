-- What becomes of the regions of a tree, each on its page, where a change of its index is made: one region was parted, or taken into
-- the one before it.
use Rattle.std.proofs.Common.{rules, ◌≡◌, ◌≢◌, ◌<◌, ◌≤◌, ◌∙◌, ℕ, suc, List, [], ◌∷◌, ◌++◌, map, take, drop, nat_eq, sym, ap, subst, refl, arith, slice_get, append_assoc}
use Rattle.ub_tree.proofs.Common.{All-from_recursion, all_left, all_more, all_right, AllByRecursion, are_places, AreOwnPages, ArePlaced, AreRegionsThere}
use Rattle.ub_tree.proofs.Common.{changed, ChangeView, distinct_apart, distinct_first, distinct_right, drop-map, entries_in, entries_under, Entry, entry_at}
use Rattle.ub_tree.proofs.Common.{entry_of, foreign_regions, Grows, HasIndex, IndexView, IsCommitted, IsDistinct, IsForeign, IsHonest, IsIndexOn, IsOutside}
use Rattle.ub_tree.proofs.Common.{IsRegionAt, made, MakesIndex, map-append, page_count, pages_under, Placed, placed_at, placed_of, placed_with, PutsSheets}
use Rattle.ub_tree.proofs.Common.{recursion_from_All, Region, region_pages, replaced_at, Replaces, reserved, Schema, slice_get_within, Stand, StayOutside}
use Rattle.ub_tree.proofs.Common.{StoreFacts, take-map, top, within_store}
use Rattle.ub_tree.proofs.IndexedFacts.{index_on}
use Rattle.ub_tree.proofs.StoredFacts.{IsKept, IsSpelled, IsTold, parted, placed_changed, spelled_changed}
use Rattle.ub_tree.proofs.TreeFacts.{entries_back}

-- the pages of the regions, by their entries
pub pages_by : (placed : List Placed) → region_pages (map entry_of placed) ≡ map (λ p. p.page) placed
pages_by [] = refl
pages_by (p ∷ placed) = ap (λ (ns : List ℕ). p.page ∷ ns) (pages_by placed)

-- the other regions' pages are none of these: the first, the region's, and one that the store hadn't
module _ (chain before after : List ℕ) (page count : ℕ) (own : IsDistinct nat_eq ((0 ∷ chain) ++ (before ++ page ∷ after))) (less : AllByRecursion (λ n. n < count) (before ++ page ∷ after)) where
  in_right : IsDistinct nat_eq (before ++ page ∷ after)
  in_right = distinct_right (0 ∷ chain) (before ++ page ∷ after) own

  not_first : AllByRecursion (λ n. 0 ≢ n) (before ++ page ∷ after)
  not_first = all_right (λ n. 0 ≢ n) chain (before ++ page ∷ after) (distinct_first 0 (chain ++ (before ++ page ∷ after)) own)

  each_apart : (ns : List ℕ) → AllByRecursion (λ n. 0 ≢ n) ns → AllByRecursion (λ n. n < count) ns → AllByRecursion (λ n. n ≢ page) ns
      → AllByRecursion (λ n. IsOutside n (0 ∷ count ∷ page ∷ [])) ns
  each_apart [] first lt other = tt
  each_apart (n ∷ ns) first lt other = search (rules, (each_apart ns first.1 lt.1 other.1))

  each_first : (ns : List ℕ) → AllByRecursion (λ n. IsOutside n (0 ∷ count ∷ page ∷ [])) ns → AllByRecursion (λ n. IsOutside n (0 ∷ page ∷ [])) ns
  each_first [] h = tt
  each_first (n ∷ ns) h = ((h.0.0, (h.0.1.1.0, tt)), each_first ns h.1)

  not_page_before : AllByRecursion (λ n. n ≢ page) before
  not_page_before = all_more (λ n. IsOutside n (page ∷ after)) (λ n. n ≢ page) (λ n h. h.0) before (distinct_apart before (page ∷ after) in_right)

  not_page_after : AllByRecursion (λ n. n ≢ page) after
  not_page_after = all_more (λ n. page ≢ n) (λ n. n ≢ page) (λ n h e. h (sym e)) after (distinct_first page after (distinct_right before (page ∷ after) in_right))

  pub apart_before : AllByRecursion (λ n. IsOutside n (0 ∷ count ∷ page ∷ [])) before
  apart_before = each_apart before (all_left (λ n. 0 ≢ n) before (page ∷ after) not_first) (all_left (λ n. n < count) before (page ∷ after) less) not_page_before

  pub apart_after : AllByRecursion (λ n. IsOutside n (0 ∷ count ∷ page ∷ [])) after
  apart_after = each_apart after (all_right (λ n. 0 ≢ n) before (page ∷ after) not_first).1 (all_right (λ n. n < count) before (page ∷ after) less).1 not_page_after

  -- the same where the store got no page
  pub apart_before_two : AllByRecursion (λ n. IsOutside n (0 ∷ page ∷ [])) before
  apart_before_two = each_first before apart_before

  pub apart_after_two : AllByRecursion (λ n. IsOutside n (0 ∷ page ∷ [])) after
  apart_after_two = each_first after apart_after

-- an index over a store, and the regions that it tells, each on its page
module _ (schema : Schema) (index : IndexView) (a : StoreFacts) (placed : List Placed) (honest : IsHonest a) (viewed : placed ≡ placed_of schema a.pages (entries_under index a.pages))
    (indexed : HasIndex index a.pages (map entry_of placed)) (placed_are : ArePlaced schema placed (reserved index a.pages) a.pages) where
  pub is : IsIndexOn index a
  is = index_on index a (map entry_of placed) honest indexed

  abbrev entries : List Entry
  entries = entries_in index a

  entries_are : entries ≡ map entry_of placed
  entries_are = indexed.entries_are

  numbers_are : region_pages entries ≡ map (λ p. p.page) placed
  numbers_are = ap region_pages entries_are ∙ pages_by placed

  pub own : AreOwnPages index a
  own = subst (λ (ns : List ℕ). IsDistinct nat_eq (reserved index a.pages ++ ns)) (sym numbers_are) placed_are.own

  spelled : AllByRecursion (IsSpelled schema a.pages) placed
  spelled = recursion_from_All (IsSpelled schema a.pages) placed placed_are.spelled

  pub there : AreRegionsThere index a
  there = subst (AllByRecursion (λ n. n < page_count a)) (sym numbers_are) (each_there placed spelled)
    where
      each_there : (ps : List Placed) → AllByRecursion (IsSpelled schema a.pages) ps → AllByRecursion (λ n. n < page_count a) (map (λ p. p.page) ps)
      each_there [] h = tt
      each_there (p ∷ ps) h = (slice_get_within a.pages p.page _ h.0, each_there ps h.1)

  -- the spelled regions, by their entries
  spelled_entries : AllByRecursion (IsSpelled schema a.pages) (placed_of schema a.pages entries)
  spelled_entries = subst (AllByRecursion (IsSpelled schema a.pages)) viewed spelled

  -- what is known of the page of a span, and of those of the other regions, where a change is made
  module _ (from : ℕ) (far : page_count a ≤ from) (change : ChangeView) (i : ℕ) (span : Region) (at : IsRegionAt (map entry_of placed) i span) where
    at_of : IsRegionAt entries i span
    at_of = subst (λ (es : List Entry). IsRegionAt es i span) (sym entries_are) at

    parts_of : region_pages entries ≡ region_pages (take i entries) ++ span.page ∷ region_pages (drop (suc i) entries)
    parts_of = ap region_pages (sym (parted entries i (entry_at span) at_of.entry)) ∙ map-append (λ (e : Entry). e.page) (take i entries) (entry_at span ∷ drop (suc i) entries)

    pub page_foreign : IsForeign index a from change span.page
    page_foreign = (all_right (IsForeign index a from change) (region_pages (take i entries)) (span.page ∷ region_pages (drop (suc i) entries))
        (subst (AllByRecursion (IsForeign index a from change)) parts_of (foreign_regions index a is own there from change far).0.1)).0

    own_parts : IsDistinct nat_eq ((0 ∷ pages_under a.pages index.levels (top index.root)) ++ (region_pages (take i entries) ++ span.page ∷ region_pages (drop (suc i) entries)))
    own_parts = subst (λ (ns : List ℕ). IsDistinct nat_eq (reserved index a.pages ++ ns)) parts_of own

    less_parts : AllByRecursion (λ n. n < page_count a) (region_pages (take i entries) ++ span.page ∷ region_pages (drop (suc i) entries))
    less_parts = subst (AllByRecursion (λ n. n < page_count a)) parts_of there

    pub before_regions : AllByRecursion (λ n. IsOutside n (0 ∷ page_count a ∷ span.page ∷ [])) (region_pages (take i entries))
    before_regions = apart_before (pages_under a.pages index.levels (top index.root)) (region_pages (take i entries)) (region_pages (drop (suc i) entries)) span.page (page_count a) own_parts less_parts

    pub after_regions : AllByRecursion (λ n. IsOutside n (0 ∷ page_count a ∷ span.page ∷ [])) (region_pages (drop (suc i) entries))
    after_regions = apart_after (pages_under a.pages index.levels (top index.root)) (region_pages (take i entries)) (region_pages (drop (suc i) entries)) span.page (page_count a) own_parts less_parts

  -- a change of the index of which this is known, made over a store that had grown, on which some pages were put
  module _ (from : ℕ) (far : page_count a ≤ from) (change : ChangeView) (i : ℕ) (span : Region) (at : IsRegionAt (map entry_of placed) i span) (fs : List Entry)
      (makes : MakesIndex index a from change (Replaces (entry_at span) fs (entries_in index a)))
      (grown filled new : StoreFacts) (grows : Grows a grown) (honest_filled : IsHonest filled) (honest_new : IsHonest new)
      (numbers : List ℕ) (others : StayOutside numbers grown.pages filled.pages) (foreign : AllByRecursion (IsForeign index a from change) numbers)
      (puts : PutsSheets change.sheets filled new) (stand : Stand new.pages change.sheets) where
    pub committed : IsCommitted index a from change (entry_at span) fs filled new
    committed = made index a grown filled new from change (entry_at span) fs numbers is makes grows others foreign honest_filled honest_new puts stand

    at_entries : IsRegionAt entries i span
    at_entries = subst (λ (es : List Entry). IsRegionAt es i span) (sym entries_are) at

    pub new_entries : entries_in (changed index change) new ≡ take i entries ++ (fs ++ drop (suc i) entries)
    new_entries = replaced_at index.last entries (entries_in (changed index change) new) i span fs (are_places index a is).0 at_entries committed.entries_are

    -- the page of a region that none of those is was kept
    kept_page : (n : ℕ) → n < page_count a → IsForeign index a from change n → IsOutside n numbers → slice_get new.pages n ≡ slice_get a.pages n
    kept_page n lt free apart = committed.kept n free ∙ (others n apart ∙ grows.kept honest n lt)

    kept_each : (es : List Entry) → AllByRecursion (λ n. n < page_count a) (region_pages es) → AllByRecursion (IsForeign index a from change) (region_pages es)
        → AllByRecursion (λ n. IsOutside n numbers) (region_pages es) → AllByRecursion (IsKept a.pages new.pages) es
    kept_each [] less free apart = tt
    kept_each (e ∷ es) less free apart = (kept_page e.page less.0 free.0 apart.0, kept_each es less.1 free.1 apart.1)

    whole : take i entries ++ entry_at span ∷ drop (suc i) entries ≡ entries
    whole = parted entries i (entry_at span) at_entries.entry

    abbrev before : List Entry
    before = take i entries

    abbrev after : List Entry
    after = drop (suc i) entries

    pages_parts : region_pages entries ≡ region_pages before ++ span.page ∷ region_pages after
    pages_parts = ap region_pages (sym whole) ∙ map-append (λ (e : Entry). e.page) before (entry_at span ∷ after)

    less : AllByRecursion (λ n. n < page_count a) (region_pages before ++ span.page ∷ region_pages after)
    less = subst (AllByRecursion (λ n. n < page_count a)) pages_parts there

    free : AllByRecursion (IsForeign index a from change) (region_pages before ++ span.page ∷ region_pages after)
    free = subst (AllByRecursion (IsForeign index a from change)) pages_parts (foreign_regions index a is own there from change far).0.1

    module _ (apart_before : AllByRecursion (λ n. IsOutside n numbers) (region_pages before)) (apart_after : AllByRecursion (λ n. IsOutside n numbers) (region_pages after))
        (news : List Placed) (told : AllByRecursion (IsTold schema new.pages) news) (fs_are : fs ≡ map entry_of news) (own_new : AreOwnPages (changed index change) new) where
      kept_before : AllByRecursion (IsKept a.pages new.pages) before
      kept_before = kept_each before (all_left (λ n. n < page_count a) (region_pages before) (span.page ∷ region_pages after) less)
          (all_left (IsForeign index a from change) (region_pages before) (span.page ∷ region_pages after) free) apart_before

      kept_after : AllByRecursion (IsKept a.pages new.pages) after
      kept_after = kept_each after (all_right (λ n. n < page_count a) (region_pages before) (span.page ∷ region_pages after) less).1
          (all_right (IsForeign index a from change) (region_pages before) (span.page ∷ region_pages after) free).1 apart_after

      parts : placed_of schema a.pages before ++ placed_at schema a.pages (entry_at span) ∷ placed_of schema a.pages after ≡ placed_of schema a.pages entries
      parts = sym (map-append (placed_at schema a.pages) before (entry_at span ∷ after)) ∙ ap (placed_of schema a.pages) whole

      spelled_parts : AllByRecursion (IsSpelled schema a.pages) (placed_of schema a.pages before ++ placed_at schema a.pages (entry_at span) ∷ placed_of schema a.pages after)
      spelled_parts = subst (AllByRecursion (IsSpelled schema a.pages)) (sym parts) spelled_entries

      parts_new : placed_of schema a.pages before ++ news ++ placed_of schema a.pages after ≡ placed_with i news placed
      parts_new = search (rules, drop-map, placed_at, take-map)

      -- the regions then, as the index tells them
      pub new_placed : placed_of schema new.pages (entries_in (changed index change) new) ≡ placed_with i news placed
      new_placed = grind (arith, append_assoc, kept_after, kept_before, new_entries, parts_new, placed_changed)

      pub new_indexed : HasIndex (changed index change) new.pages (map entry_of (placed_with i news placed))
      new_indexed = search (rules, committed, entries_are, entries_back, new_placed)

      pub new_are : ArePlaced schema (placed_with i news placed) (reserved (changed index change) new.pages) new.pages
      new_are = search (rules, All-from_recursion, IsSpelled, all_left, all_right, committed, kept_after, kept_before, new_indexed, own, pages_by, parts_new, placed_at, spelled, spelled_changed, spelled_parts, within_store)
