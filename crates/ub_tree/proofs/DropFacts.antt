-- A region that goes: its rows were put on the page of the one before it, and then its entry was taken out of the index.
use Rattle.std.proofs.Common.{rules, ◌≡◌, ◌≢◌, ◌<◌, ◌+◌, ◌∙◌, inl, ℕ, zero, suc, List, [], ◌∷◌, ◌++◌, Some, true, length, map, take, drop, nat_eq, sym, ap, subst, refl, arith, slice_get}
use Rattle.ub_tree.proofs.Common.{AllByRecursion, apart_swap, AreOthersKept, AreOwnPages, ArePlaced, AreRegionsThere, cases_lt, changed, ChangeView}
use Rattle.ub_tree.proofs.Common.{common_steps, count_replaced, each_get, entries_in, entries_under, Entry, entry_at, entry_of, Grows, HasIndex, IndexView}
use Rattle.ub_tree.proofs.Common.{IsCommitted, IsDistinct, IsForeign, IsHonest, IsIndexOn, IsOutside, IsReachedOnce, IsRegion, IsRegionAt, Key, length-map}
use Rattle.ub_tree.proofs.Common.{MakesIndex, own_apart, own_dropped, page_count, pages_of_index, Placed, placed_of, placed_with, put_rows, PutsSheets}
use Rattle.ub_tree.proofs.Common.{recursion_from_All, Region, region_page, region_pages, region_parts, RegionRows, regions_in, regions_with, Replaces, reserved}
use Rattle.ub_tree.proofs.Common.{Row, Schema, Sheet, slice_get_past, Stand, stands_as, StandsAsOn, StayBut, StoreFacts, within_store}
use Rattle.std.specs.List.{remove as remove_at_index}
use Rattle.ub_tree.proofs.HoldingFacts.{pages_there}
use Rattle.ub_tree.proofs.IndexedFacts.{index_on, reached_once}
use Rattle.ub_tree.proofs.PutFacts.{put_placed}
use Rattle.ub_tree.proofs.ShrinkFacts.{map_removed, placed_without, put_joined, regions_put}
use Rattle.ub_tree.proofs.SplitFacts.{committed, new_are, new_indexed, new_placed, pages_by}
use Rattle.ub_tree.proofs.StoredFacts.{IsSpelled, IsTold}
use Rattle.ub_tree.proofs.TreeFacts.{all_get, region_get, placed_there, within_placed}

-- pages were put that are none of the index: a change that was prepared before makes the same of it as one prepared now
module _ (index : IndexView) (a mid : StoreFacts) (numbers : List ℕ) (is : IsIndexOn index a) (reached : IsReachedOnce index a) (honest : IsHonest mid)
    (others : AreOthersKept numbers a.pages mid.pages) (count : page_count mid ≡ page_count a) (outside : AllByRecursion (λ n. IsOutside n (pages_of_index index a)) numbers) where
  pub stands : StandsAsOn index a mid
  stands = stands_as index a mid numbers is reached honest (λ m lt out. others m out lt) outside

  stay_back : (later : List (List ℕ)) (sheets : List Sheet) (ns : List ℕ) → AllByRecursion (λ n. n < page_count a) ns → AllByRecursion (λ n. IsOutside n numbers) ns
      → StayBut mid.pages later sheets ns → StayBut a.pages later sheets ns
  stay_back later sheets [] less apart h = tt
  stay_back later sheets (n ∷ ns) less apart h = ((λ free. h.0 free ∙ others n apart.0 less.0), stay_back later sheets ns less.1 apart.1 h.1)

  stayed : (later : List (List ℕ)) (sheets : List Sheet) → StayBut mid.pages later sheets (pages_of_index index mid) → StayBut a.pages later sheets (pages_of_index index a)
  stayed later sheets h = search (rules, apart_swap, stands, stay_back, within_store)

  foreign_back : (from : ℕ) (change : ChangeView) (n : ℕ) → IsForeign index mid from change n → IsForeign index a from change n
  foreign_back from change n h = (h.0, subst (λ (ns : List ℕ). IsOutside n ns) stands.pages_are h.1)

  pub makes_after : (change : ChangeView) (Are : List Entry → Type 0) → MakesIndex index a (page_count a) change Are → MakesIndex index mid (page_count mid) change Are
  makes_after change Are makes = subst (λ (from : ℕ). MakesIndex index mid from change Are) (sym count) (record {
    start = makes.start ∙ sym count;
    once = makes.once;
    own = λ n free. makes.own n (foreign_back (page_count a) change n free);
    makes = λ later stand stay. makes.makes later stand (stayed later change.sheets stay);
    no_other = λ later stand stay n free. makes.no_other later stand (stayed later change.sheets stay) n (foreign_back (page_count a) change n free);
  })

-- the page of an entry is among those of the regions
page_of : (entries : List Entry) (i : ℕ) (e : Entry) → slice_get entries i ≡ Some e → slice_get (region_pages entries) i ≡ Some e.page
page_of [] i e at = cc
page_of (x ∷ entries) zero e at = let same : x ≡ e = cc in ap (λ (y : Entry). Some y.page) same
page_of (x ∷ entries) (suc i) e at = page_of entries i e at

-- what comes in the place of one stands there
stands_anew : (i : ℕ) (p : Placed) (placed : List Placed) → i < length placed → slice_get (placed_with i (p ∷ []) placed) i ≡ Some p
stands_anew i p [] lt = absurd (omega arith)
stands_anew zero p (q ∷ placed) lt = refl
stands_anew (suc i) p (q ∷ placed) lt = stands_anew i p placed (omega arith)

no_page : (numbers : List ℕ) → AllByRecursion (λ n. IsOutside n []) numbers
no_page [] = tt
no_page (n ∷ numbers) = (tt, no_page numbers)

-- the rows of a region and of the next one were put on its page, and a change by which the next one goes was prepared before and then made
module _ (schema : Schema) (index : IndexView) (a mid new : StoreFacts) (placed placed_mid : List Placed)
    (honest : IsHonest a) (viewed : placed ≡ placed_of schema a.pages (entries_under index a.pages))
    (indexed : HasIndex index a.pages (map entry_of placed)) (placed_are : ArePlaced schema placed (reserved index a.pages) a.pages)
    (i : ℕ) (span next : Region) (at : IsRegionAt (map entry_of placed) i span) (at_next : IsRegionAt (map entry_of placed) (i + 1) next)
    (rows : List Row) (good : IsRegion schema (record { first = span.first; rows = rows }))
    (honest_mid : IsHonest mid) (others : AreOthersKept (0 ∷ span.page ∷ []) a.pages mid.pages) (count : page_count mid ≡ page_count a)
    (indexed_mid : HasIndex index mid.pages (map entry_of placed_mid)) (placed_are_mid : ArePlaced schema placed_mid (reserved index mid.pages) mid.pages)
    (is_mid : placed_mid ≡ placed_with i (record { page = span.page; region = record { first = span.first; rows = rows } } ∷ []) placed)
    (change : ChangeView) (makes : MakesIndex index a (page_count a) change (Replaces (entry_at next) [] (entries_in index a)))
    (honest_new : IsHonest new) (puts : PutsSheets change.sheets mid new) (stand : Stand new.pages change.sheets) where
  on_a : IsIndexOn index a
  on_a = index_on index a (map entry_of placed) honest indexed

  on_mid : IsIndexOn index mid
  on_mid = index_on index mid (map entry_of placed_mid) honest_mid indexed_mid

  reached : IsReachedOnce index a
  reached = reached_once index a (map (λ p. p.page) placed) placed_are.own

  own_a : AreOwnPages index a
  own_a = subst (λ (ns : List ℕ). IsDistinct nat_eq (reserved index a.pages ++ ns)) (sym (ap region_pages indexed.entries_are ∙ pages_by placed)) placed_are.own

  own_mid : AreOwnPages index mid
  own_mid = subst (λ (ns : List ℕ). IsDistinct nat_eq (reserved index mid.pages ++ ns)) (sym (ap region_pages indexed_mid.entries_are ∙ pages_by placed_mid)) placed_are_mid.own

  there_mid : AreRegionsThere index mid
  there_mid = subst (AllByRecursion (λ n. n < page_count mid)) (sym (ap region_pages indexed_mid.entries_are ∙ pages_by placed_mid))
      (pages_there schema mid.pages placed_mid (recursion_from_All (IsSpelled schema mid.pages) placed_mid placed_are_mid.spelled))

  outside : AllByRecursion (λ n. IsOutside n (pages_of_index index a)) (0 ∷ span.page ∷ [])
  outside = search (rules, each_get, own_a, own_apart, page_of)

  stood : StandsAsOn index a mid
  stood = stands index a mid (0 ∷ span.page ∷ []) on_a reached honest_mid others count outside

  makes_mid : MakesIndex index mid (page_count mid) change (Replaces (entry_at next) [] (entries_in index mid))
  makes_mid = subst (λ (es : List Entry). MakesIndex index mid (page_count mid) change (Replaces (entry_at next) [] es)) (sym stood.entries_are)
      (makes_after index a mid (0 ∷ span.page ∷ []) on_a reached honest_mid others count outside change (Replaces (entry_at next) [] (entries_in index a)) makes)

  abbrev put : Placed
  put = record { page = span.page; region = record { first = span.first; rows = rows } }

  told_mid : IsTold schema mid.pages put
  told_mid =
      let there : slice_get placed_mid i ≡ Some put = ap (λ (ps : List Placed). slice_get ps i) is_mid ∙ stands_anew i put placed (within_placed placed i span at) in
      (all_get (IsSpelled schema mid.pages) placed_mid i put placed_are_mid.spelled there, (region_parts schema put.region (region_page schema put.region) good refl).on)

  all_others : (m : ℕ) → m ≢ 0 → m ≢ span.page → slice_get mid.pages m ≡ slice_get a.pages m
  all_others m h k = search (rules, cases_lt, slice_get_past)

  viewed_mid : placed_mid ≡ placed_of schema mid.pages (entries_under index mid.pages)
  viewed_mid = is_mid ∙ sym (put_placed schema index a.pages mid.pages placed viewed indexed placed_are i span at rows all_others count told_mid)

  at_mid : IsRegionAt (map entry_of placed_mid) (i + 1) next
  at_mid = subst (λ (es : List Entry). IsRegionAt es (i + 1) next) (sym (sym indexed_mid.entries_are ∙ stood.entries_are ∙ indexed.entries_are)) at_next

  same_grown : Grows mid mid
  same_grown = record { more = omega arith; kept = λ h m lt. refl; lasting = λ h. inl refl }

  made : IsCommitted index mid (page_count mid) change (entry_at next) [] mid new
  made = committed schema index mid placed_mid honest_mid viewed_mid indexed_mid placed_are_mid (page_count mid) (omega arith) change (i + 1) next at_mid [] makes_mid
      mid mid new same_grown honest_mid honest_new [] (λ m out. refl) tt puts stand

  own_new : AreOwnPages (changed index change) new
  own_new = own_dropped index mid on_mid own_mid there_mid change (entry_at next) mid new made

  -- the regions then
  pub dropped_placed : placed_of schema new.pages (entries_in (changed index change) new) ≡ placed_with (i + 1) [] placed_mid
  dropped_placed = new_placed schema index mid placed_mid honest_mid viewed_mid indexed_mid placed_are_mid (page_count mid) (omega arith) change (i + 1) next at_mid [] makes_mid
      mid mid new same_grown honest_mid honest_new [] (λ m out. refl) tt puts stand
      (no_page (region_pages (take (i + 1) (entries_in index mid)))) (no_page (region_pages (drop (suc (i + 1)) (entries_in index mid)))) [] tt refl own_new

  pub dropped_indexed : HasIndex (changed index change) new.pages (map entry_of (placed_with (i + 1) [] placed_mid))
  dropped_indexed = new_indexed schema index mid placed_mid honest_mid viewed_mid indexed_mid placed_are_mid (page_count mid) (omega arith) change (i + 1) next at_mid [] makes_mid
      mid mid new same_grown honest_mid honest_new [] (λ m out. refl) tt puts stand
      (no_page (region_pages (take (i + 1) (entries_in index mid)))) (no_page (region_pages (drop (suc (i + 1)) (entries_in index mid)))) [] tt refl own_new

  pub dropped_are : ArePlaced schema (placed_with (i + 1) [] placed_mid) (reserved (changed index change) new.pages) new.pages
  dropped_are = new_are schema index mid placed_mid honest_mid viewed_mid indexed_mid placed_are_mid (page_count mid) (omega arith) change (i + 1) next at_mid [] makes_mid
      mid mid new same_grown honest_mid honest_new [] (λ m out. refl) tt puts stand
      (no_page (region_pages (take (i + 1) (entries_in index mid)))) (no_page (region_pages (drop (suc (i + 1)) (entries_in index mid)))) [] tt refl own_new

  -- one fewer
  pub dropped_long : length (placed_with (i + 1) [] placed_mid) + 1 ≡ length placed_mid
  dropped_long = grind (arith, common_steps, count_replaced, dropped_indexed, length-map, made)

  pub dropped_regions : regions_in (placed_with (i + 1) [] placed_mid) ≡ put_rows i true rows (regions_in placed)
  dropped_regions =
      let p = placed_there placed i span at in
      let region = region_get placed i p.0 p.1 in
      let alone : List RegionRows = record { first = span.first; rows = rows } ∷ [] in
      let first : slice_get (regions_in placed) i ≡ Some p.0.region = region in
      let joined : remove_at_index (regions_with i alone (regions_in placed)) (suc i) ≡ put_rows i true rows (regions_in placed) =
      subst (λ (k : Key). remove_at_index (regions_with i (record { first = k; rows = rows } ∷ []) (regions_in placed)) (suc i) ≡ put_rows i true rows (regions_in placed)) p.3
      (put_joined i rows p.0.region (regions_in placed) region) in
      let up : i + 1 ≡ suc i = omega arith in
      ap regions_in (placed_without (i + 1) placed_mid) ∙ map_removed (λ (q : Placed). q.region) (i + 1) placed_mid
      ∙ ap (λ (rs : List RegionRows). remove_at_index rs (i + 1)) (ap regions_in is_mid ∙ regions_put i (put ∷ []) placed)
      ∙ ap (remove_at_index (regions_with i alone (regions_in placed))) up ∙ joined
