-- What putting the page of a region leaves of a tree: its index, and the regions, each on its page.
use Rattle.std.proofs.Common.{rules, ◌≡◌, ◌≢◌, ◌<◌, ◌≤◌, ◌∙◌, ◌++◌, ◌^◌, ℕ, zero, suc, Bool, List, [], ◌∷◌, Option, Some, length, map, take, drop, nat_eq, sym, ap, subst, refl, arith, slice_get, append_assoc}
use Rattle.ub_tree.proofs.Common.{all_left, all_right, AllByRecursion, ArePlaced, cases_eq, distinct_apart, distinct_first, drop-map, entries_under, Entry}
use Rattle.ub_tree.proofs.Common.{entry_at, entry_of, HasIndex, IndexView, IsDistinct, IsHonest, IsIndexKind, IsOutside, IsPage, IsRegion, IsRegionAt}
use Rattle.ub_tree.proofs.Common.{IsRegionIn, IsRegionOf, IsRegionThere, IsStored, KeepsTold, kept_index, kept_pages, kept_under, Key, leads_kept, LeadsTo}
use Rattle.ub_tree.proofs.Common.{length-map, map-append, page_in, PagerView, pages_under, PagesStay, Placed, placed_at, placed_in, placed_of, placed_with}
use Rattle.ub_tree.proofs.Common.{Puts, recursion_from_All, Region, region_page, region_pages, region_parts, RegionRows, reserved, Row, Schema}
use Rattle.ub_tree.proofs.Common.{slice_get_within, StoreFacts, take-map, top, tree_view, TreeView, ways_miss}
use Rattle.ub_index.proofs.HeldFacts.{ends_of}
use Rattle.ub_tree.proofs.SearchFacts.{known_is}
use Rattle.ub_tree.proofs.SplitFacts.{apart_after_two, apart_before_two, pages_by}
use Rattle.ub_tree.proofs.StoredFacts.{IsKept, IsSpelled, IsTold, parted, placed_changed, spelled_changed}
use Rattle.ub_tree.proofs.TreeFacts.{entries_back}

-- on an honest store the regions are those that its pages tell
pub view_placed : (schema : Schema) (index : IndexView) (store : StoreFacts) → IsHonest store → placed_in schema index store ≡ placed_of schema store.pages (entries_under index store.pages)
view_placed schema index store honest = ap (λ (known : List (List ℕ)). placed_of schema known (entries_under index known)) (known_is store honest)

-- the page of an entry is among those of the regions
pub page_at : (placed : List Placed) (i : ℕ) (e : Entry) → slice_get (map entry_of placed) i ≡ Some e → slice_get (map (λ p. p.page) placed) i ≡ Some e.page
page_at [] i e at = cc
page_at (p ∷ placed) zero e at = let same : entry_of p ≡ e = cc in ap (λ (x : Entry). Some x.page) same
page_at (p ∷ placed) (suc i) e at = page_at placed i e at

outside_at : (n q : ℕ) (ns : List ℕ) (i : ℕ) → slice_get ns i ≡ Some q → IsOutside n ns → n ≢ q
outside_at n q [] i at h = cc
outside_at n q (m ∷ ns) zero at h = λ e. (let same : m ≡ q = cc in h.0 (e ∙ sym same))
outside_at n q (m ∷ ns) (suc i) at h = outside_at n q ns i at h.1

-- a page of a region was put, and perhaps the first: the others are as they were
module _ (schema : Schema) (index : IndexView) (pages new : List (List ℕ)) (placed : List Placed) (viewed : placed ≡ placed_of schema pages (entries_under index pages))
    (indexed : HasIndex index pages (map entry_of placed)) (placed_are : ArePlaced schema placed (reserved index pages) pages)
    (i : ℕ) (span : Region) (at : IsRegionAt (map entry_of placed) i span) (rows : List Row)
    (others : (m : ℕ) → m ≢ 0 → m ≢ span.page → slice_get new m ≡ slice_get pages m) (count : length new ≡ length pages)
    (told : IsTold schema new (record { page = span.page; region = record { first = span.first; rows = rows } })) where
  abbrev chain : List ℕ
  chain = pages_under pages index.levels (top index.root)

  abbrev entries : List Entry
  entries = entries_under index pages

  abbrev news : List Placed
  news = record { page = span.page; region = record { first = span.first; rows = rows } } ∷ []

  abbrev before : List Entry
  before = take i entries

  abbrev after : List Entry
  after = drop (suc i) entries

  numbers_are : region_pages entries ≡ map (λ p. p.page) placed
  numbers_are = ap region_pages indexed.entries_are ∙ pages_by placed

  -- the pages of the index stay
  each_stays : (ns : List ℕ) → AllByRecursion (λ n. 0 ≢ n) ns → AllByRecursion (λ n. IsOutside n (map (λ p. p.page) placed)) ns → PagesStay pages new ns
  each_stays [] first apart = tt
  each_stays (n ∷ ns) first apart = search (rules, (each_stays ns first.1 apart.1), outside_at, page_at)

  stay : PagesStay pages new chain
  stay = each_stays chain (all_left (λ n. 0 ≢ n) chain (map (λ p. p.page) placed) (distinct_first 0 (chain ++ map (λ p. p.page) placed) placed_are.own))
      (distinct_apart (0 ∷ chain) (map (λ p. p.page) placed) placed_are.own).1

  same_entries : entries_under index new ≡ entries
  same_entries = kept_under pages new index.levels (top index.root) stay

  same_reserved : reserved index new ≡ reserved index pages
  same_reserved = ap (λ (ns : List ℕ). 0 ∷ ns) (kept_pages pages new index.levels (top index.root) stay)

  at_entries : IsRegionAt entries i span
  at_entries = subst (λ (es : List Entry). IsRegionAt es i span) (sym indexed.entries_are) at

  whole : before ++ entry_at span ∷ after ≡ entries
  whole = parted entries i (entry_at span) at_entries.entry

  pages_parts : region_pages entries ≡ region_pages before ++ span.page ∷ region_pages after
  pages_parts = ap region_pages (sym whole) ∙ map-append (λ (e : Entry). e.page) before (entry_at span ∷ after)

  spelled : AllByRecursion (IsSpelled schema pages) placed
  spelled = recursion_from_All (IsSpelled schema pages) placed placed_are.spelled

  own_parts : IsDistinct nat_eq ((0 ∷ chain) ++ (region_pages before ++ span.page ∷ region_pages after))
  own_parts = subst (λ (ns : List ℕ). IsDistinct nat_eq ((0 ∷ chain) ++ ns)) (sym numbers_are ∙ pages_parts) placed_are.own

  pages_there : (ps : List Placed) → AllByRecursion (IsSpelled schema pages) ps → AllByRecursion (λ n. n < length pages) (map (λ p. p.page) ps)
  pages_there [] h = tt
  pages_there (p ∷ ps) h = (slice_get_within pages p.page _ h.0, pages_there ps h.1)

  less : AllByRecursion (λ n. n < length pages) (region_pages before ++ span.page ∷ region_pages after)
  less = subst (AllByRecursion (λ n. n < length pages)) (sym numbers_are ∙ pages_parts) (pages_there placed spelled)

  kept_each : (es : List Entry) → AllByRecursion (λ n. IsOutside n (0 ∷ span.page ∷ [])) (region_pages es) → AllByRecursion (IsKept pages new) es
  kept_each [] apart = tt
  kept_each (e ∷ es) apart = (others e.page apart.0.0 apart.0.1.0, kept_each es apart.1)

  kept_before : AllByRecursion (IsKept pages new) before
  kept_before = kept_each before (apart_before_two chain (region_pages before) (region_pages after) span.page (length pages) own_parts less)

  kept_after : AllByRecursion (IsKept pages new) after
  kept_after = kept_each after (apart_after_two chain (region_pages before) (region_pages after) span.page (length pages) own_parts less)

  parts : placed_of schema pages before ++ placed_at schema pages (entry_at span) ∷ placed_of schema pages after ≡ placed
  parts = sym (map-append (placed_at schema pages) before (entry_at span ∷ after)) ∙ ap (placed_of schema pages) whole ∙ sym viewed

  spelled_parts : AllByRecursion (IsSpelled schema pages) (placed_of schema pages before ++ placed_at schema pages (entry_at span) ∷ placed_of schema pages after)
  spelled_parts = subst (AllByRecursion (IsSpelled schema pages)) (sym parts) spelled

  parts_new : placed_of schema pages before ++ news ++ placed_of schema pages after ≡ placed_with i news placed
  parts_new = search (rules, drop-map, placed_at, take-map)

  -- the regions then
  pub put_placed : placed_of schema new (entries_under index new) ≡ placed_with i news placed
  put_placed =
      ap (placed_of schema new) (same_entries ∙ sym whole ∙ sym (append_assoc before (map entry_of news) after))
      ∙ placed_changed schema pages new before after news kept_before kept_after (told, tt) ∙ parts_new

  pub put_indexed : HasIndex index new (map entry_of (placed_with i news placed))
  put_indexed = search (rules, entries_back, kept_index, put_placed, stay)

  pub put_are : ArePlaced schema (placed_with i news placed) (reserved index new) new
  put_are = search (rules, IsSpelled, all_left, all_right, kept_after, kept_before, numbers_are, pages_by, parts_new, placed_at, put_indexed, same_entries, same_reserved, spelled, spelled_changed, spelled_parts)

  -- as many as before
  pub put_long : length (placed_with i news placed) ≡ length placed
  put_long = search (rules, length-map, put_indexed, same_entries)

-- the same of a tree, where the page spells rows of the region of the span
pub put_rows : (schema : Schema) (index : IndexView) (count next rows : ℕ) (changed now failed : Bool) (old new : PagerView) (i : ℕ) (span : Region) (page : List ℕ) (own : List Row)
    → Puts span.page page old.store new.store → IsHonest new.store → IsStored (tree_view schema index count next rows changed failed old) → IsRegionIn (tree_view schema index count next rows changed failed old) i span
    → IsRegion schema (record { first = span.first; rows = own }) → page ≡ region_page schema (record { first = span.first; rows = own })
    → IsStored (tree_view schema index count next rows now failed new)
    × (placed_in schema index new.store ≡ placed_with i (record { page = span.page; region = record { first = span.first; rows = own } } ∷ []) (placed_in schema index old.store))
put_rows schema index count next rows changed now failed old new i span page own puts honest stored at good spells =
    let region : RegionRows = record { first = span.first; rows = own } in
    let told : IsTold schema new.store.pages (record { page = span.page; region = region }) =
    (puts.written stored.honest ∙ ap (λ (q : List ℕ). Some q) spells, (region_parts schema region (region_page schema region) good refl).on) in
    let viewed = view_placed schema index old.store stored.honest in
    let others = puts.others stored.honest in
    let placed = placed_in schema index old.store in
    let is = view_placed schema index new.store honest ∙ put_placed schema index old.store.pages new.store.pages placed viewed stored.indexed stored.placed_are i span at own others puts.count told in (
      record {
        working = stored.working;
        honest = honest;
        indexed = subst (λ (ps : List Placed). HasIndex index new.store.pages (map entry_of ps)) (sym is)
            (put_indexed schema index old.store.pages new.store.pages placed viewed stored.indexed stored.placed_are i span at own others puts.count told);
        placed_are = subst (λ (ps : List Placed). ArePlaced schema ps (reserved index new.store.pages) new.store.pages) (sym is)
            (put_are schema index old.store.pages new.store.pages placed viewed stored.indexed stored.placed_are i span at own others puts.count told);
        count_is = stored.count_is ∙ sym (put_long schema index old.store.pages new.store.pages placed viewed stored.indexed stored.placed_are i span at own others puts.count told) ∙ ap length (sym is);
      },
      is,
    )

-- each page but the first that is one of an index by its first byte is as it was
abbrev pub KeepsKinds : List (List ℕ) → List (List ℕ) → Type 0
KeepsKinds old new = (n : ℕ) (page : List ℕ) → 1 ≤ n → slice_get old n ≡ Some page → IsIndexKind page → slice_get new n ≡ slice_get old n

-- then each way leads where it led: none goes over the first page
module _ (last : ℕ) (small : last < 256 ^ 16) (old new : List (List ℕ)) (keeps : KeepsKinds old new) (key : Key) where
  pub still_taken : (level : ℕ) (entry : Entry) (end : Option Key) (found : Entry) (next : Option Key) → 1 ≤ entry.page → LeadsTo last old key level entry end found next
      → LeadsTo last new key level entry end found next
  still_taken level entry end found next some leads =
      leads_kept last old new key (λ l x e some named. keeps x.page (page_in old x.page) some named.there (ends_of last (page_in old x.page) l x e small named.fits).kind)
      level entry end found next some leads

-- where those pages stay, the tree tells of the same regions
module _ (schema : Schema) (index : IndexView) (count next rows : ℕ) (was now failed now_failed : Bool) (old new : PagerView) (some : 1 ≤ index.root) (small : index.last < 2 ^ 128) where
  pub told_still : (IsHonest new.store → IsHonest old.store) → (IsHonest old.store → KeepsKinds old.store.pages new.store.pages)
      → (region : Region) → IsRegionOf (tree_view schema index count next rows was failed old) region → IsRegionOf (tree_view schema index count next rows now now_failed new) region
  told_still h k region j = search (rules, less, still_taken)

-- a page that is put where one stood that spells a region takes none of an index away
put_keeps : (schema : Schema) (pages new : List (List ℕ)) (n : ℕ) (region : RegionRows) → IsRegion schema region → slice_get pages n ≡ Some (region_page schema region)
    → ((m : ℕ) → m ≢ 0 → m ≢ n → slice_get new m ≡ slice_get pages m) → KeepsKinds pages new
put_keeps schema pages new n region h k j = search (rules, cases_eq, region_parts)

pub told_put : (schema : Schema) (index : IndexView) (count next rows : ℕ) (was now failed : Bool) (old new : PagerView) (n : ℕ) (region after : RegionRows) → 1 ≤ index.root → index.last < 2 ^ 128
    → IsRegion schema region → IsRegion schema after → IsPage old.store n (region_page schema region) → new.store.honest ≡ old.store.honest → Puts n (region_page schema after) old.store new.store
    → KeepsTold (tree_view schema index count next rows was failed old) (tree_view schema index count next rows now failed new)
told_put schema index count next rows was now failed old new n region after some small is is_after stood same puts = record {
  count = refl;
  told = λ span. (
    λ told. told_still schema index count next rows was now failed failed old new some small (λ h. sym same ∙ h)
        (λ honest. put_keeps schema old.store.pages new.store.pages n region is (stood honest) (puts.others honest)) span told,
    λ told. told_still schema index count next rows now was failed failed new old some small (λ h. same ∙ h)
        (λ honest_new. let honest = sym same ∙ honest_new in put_keeps schema new.store.pages old.store.pages n after is_after (puts.written honest) (λ m first apart. sym (puts.others honest m first apart))) span told,
  );
}

-- no region that a tree tells of stands on the first page
pub own_page : (t : TreeView) (span : Region) → 1 ≤ t.inner.index.root → IsHonest t.store → IsRegionOf t span → span.page ≢ 0
own_page t span root honest told e =
    let some = (ways_miss t.inner.index t.store t.store told.key root).0 span (told.falls.way honest) in
    absurd (omega arith)

-- a page that spells a region is put on the page of a span where one stands
pub told_there : (schema : Schema) (index : IndexView) (count next rows : ℕ) (was now failed : Bool) (old new : PagerView) (span : Region) (page : List ℕ) → 1 ≤ index.root → index.last < 2 ^ 128
    → IsRegionThere (tree_view schema index count next rows was failed old) span → (r : RegionRows) → IsRegion schema r → page ≡ region_page schema r → new.store.honest ≡ old.store.honest
    → Puts span.page page old.store new.store → KeepsTold (tree_view schema index count next rows was failed old) (tree_view schema index count next rows now failed new)
told_there schema index count next rows was now failed old new span page some small there r is spells same puts =
    told_put schema index count next rows was now failed old new span.page there.region r some small there.on.0 is there.on.2 same
    (subst (λ (q : List ℕ). Puts span.page q old.store new.store) spells puts)
