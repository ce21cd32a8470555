-- A table's pages tell of one header alone, and opening finds it and the index of which it tells.
use Rattle.std.proofs.Common.{rules, ◌≡◌, ℕ, false, List, [], ◌∷◌, Some, map, ◌∙◌, sym, ap, subst, refl, arith, slice_get}
use Rattle.ub_tree.proofs.Common.{AllByRecursion, AreSame, AreSoundPages, entries_under, entry_of, HasMark, Header, header_page, index_of, IndexView, IsHeader}
use Rattle.ub_tree.proofs.Common.{IsHeaderFault, IsHonest, IsMarkFault, IsOpened, IsOpenFault, IsRegion, IsRooted, IsSound, known_pages, number_at, PageFault}
use Rattle.ub_tree.proofs.Common.{pager_view, PagerView, Placed, placed_in, placed_of, recursion_from_All, region_page, region_parts, regions_in, Schema}
use Rattle.ub_tree.proofs.Common.{slice_get_within, some_one, StoreFacts, tree_view, TreeFault, TreeView, Unclean, untouched}
use Rattle.ub_page.proofs.PageLaws.{HasParts, header_parts, same_header, unclean_refused}
use Rattle.ub_table.proofs.Laws.{same_schema}
use Rattle.ub_tree.proofs.SearchFacts.{known_is}
use Rattle.ub_tree.proofs.StoredFacts.{IsSpelled, IsTold, placed_told}

-- what is made of a table that was read
pub opened : (first : StoreFacts) (header : Header) (pager now : PagerView) → pager ≡ pager_view first untouched → (IsHonest pager.store → IsRooted pager.store.pages header)
    → now.store ≡ pager.store → now.trace ≡ pager.trace → IsOpened first (tree_view header.schema (index_of header) header.regions header.next header.rows false false now)
opened first header pager now made rooted stores traces =
    let store_is : pager.store ≡ first = ap (λ (p : PagerView). p.store) made in
    record {
      header = header;
      rooted = subst (λ (s : StoreFacts). IsHonest s → IsRooted s.pages header) store_is rooted;
      schema_is = refl;
      index_is = refl;
      count_is = refl;
      rows_are = refl;
      next_is = refl;
      unchanged = refl;
      working = refl;
      store_is = stores ∙ store_is;
      trace_is = traces ∙ ap (λ (p : PagerView). p.trace) made;
    }

headers_same : (pages : List (List ℕ)) (a b : Header) → slice_get pages 0 ≡ Some (header_page a) → IsHeader a → a.unclean ≡ false → slice_get pages 0 ≡ Some (header_page b) → IsHeader b → b.unclean ≡ false
    → AreSame a b
headers_same pages a b at_a is_a clean_a at_b is_b clean_b =
    let on_a = header_parts a (header_page a) is_a refl in
    let on_b = header_parts b (header_page a) is_b (some_one (slice_get pages 0) (header_page a) (header_page b) at_a at_b) in
    same_header a b (sym on_a.numbers ∙ on_b.numbers) (sym on_a.name ∙ on_b.name) (sym on_a.columns ∙ on_b.columns) (clean_a ∙ sym clean_b)

-- the header that was read is the one of which the pages tell, and so is the index
module _ (pages : List (List ℕ)) (a b : Header) (at_a : slice_get pages 0 ≡ Some (header_page a)) (is_a : IsHeader a) (clean_a : a.unclean ≡ false)
    (at_b : slice_get pages 0 ≡ Some (header_page b)) (is_b : IsHeader b) (clean_b : b.unclean ≡ false) where
  same : AreSame a b
  same = headers_same pages a b at_a is_a clean_a at_b is_b clean_b

  pub one_schema : a.schema ≡ b.schema
  one_schema = same_schema a.schema b.schema same.name same.columns same.dims same.page_rows same.signed

  pub one_index : index_of a ≡ index_of b
  one_index = search (rules, same)

  pub one_next : a.next ≡ b.next
  one_next = same.next

  pub one_count : a.rows ≡ b.rows
  one_count = same.rows

  pub one_number : a.regions ≡ b.regions
  one_number = same.regions

-- the first page of a table that is marked as changed is refused
module _ (old : StoreFacts) (honest : IsHonest old) (schema : Schema) (mark : HasMark schema old.pages) where
  mark_parts : HasParts mark.1.0 mark.0
  mark_parts = header_parts mark.1.0 mark.0 mark.1.1.in_range mark.1.2

  mark_state : number_at 1 5 mark.0 ≡ 1
  mark_state = ap (λ n. n.state) mark_parts.numbers ∙ rw mark.1.1.unclean refl

  pub never_clean : (h : Header) → slice_get old.pages 0 ≡ Some (header_page h) → IsHeader h → h.unclean ≡ false → ⊥
  never_clean h at is clean =
      let page = some_one (slice_get old.pages 0) mark.0 (header_page h) mark.2 at in
      let state : number_at 1 5 mark.0 ≡ 0 = ap (λ n. n.state) (header_parts h mark.0 is page).numbers ∙ rw clean refl in
      let on = mark_state in
      absurd (omega arith)

  mark_fault : (fault : PageFault) → IsHeaderFault mark.0 fault → fault ≡ Unclean
  mark_fault fault h = unclean_refused mark.1.0 mark.0 mark.1.1.in_range mark.1.1.unclean mark.1.2 fault h

  pub mark_refused : (fault : TreeFault) → IsOpenFault old fault → IsMarkFault fault
  mark_refused fault k = search (rules, mark_fault, never_clean, slice_get_within, some_one)

-- the pages of a closed table tell of its regions
module _ (pages : List (List ℕ)) (schema : Schema) (placed : List Placed) (next : ℕ) (s : AreSoundPages pages schema placed next) where
  spelled_each : AllByRecursion (IsSpelled schema pages) placed
  spelled_each = recursion_from_All (IsSpelled schema pages) placed s.placed_are.spelled

  told_each : (ps : List Placed) → AllByRecursion (IsRegion schema) (regions_in ps) → AllByRecursion (IsSpelled schema pages) ps → AllByRecursion (IsTold schema pages) ps
  told_each [] regions spelled = tt
  told_each (p ∷ ps) regions spelled = ((spelled.0, (region_parts schema p.region (region_page schema p.region) regions.0 refl).on), told_each ps regions.1 spelled.1)

  pub placed_back : placed_of schema pages (map entry_of placed) ≡ placed
  placed_back = placed_told schema pages placed (told_each placed s.well_formed.each spelled_each)

abbrev view_with : Schema → List Placed → IndexView → ℕ → ℕ → ℕ → PagerView → TreeView
view_with schema placed index count next rows pager = record {
  schema = schema;
  placed = placed;
  rows = rows;
  next = next;
  is_changed = false;
  is_failed = false;
  store = pager.store;
  trace = pager.trace;
  inner = record { index = index; count = count };
}

-- opening a closed table gives a sound tree of its regions
module _ (first : StoreFacts) (honest : IsHonest first) (header : Header) (h : IsRooted first.pages header) (now : PagerView)
    (kept : now.store ≡ first) (schema : Schema) (placed : List Placed) (next : ℕ) (s : AreSoundPages first.pages schema placed next) where
  sound_view : IsSound (view_with schema placed (index_of s.header) s.header.regions next s.header.rows now)
  sound_view = search rules

  pub opened_sound : IsSound (tree_view header.schema (index_of header) header.regions header.next header.rows false false now) × (header.schema ≡ schema)
      × (placed_in header.schema (index_of header) now.store ≡ placed) × (header.next ≡ next)
  opened_sound =
      let schema_is : header.schema ≡ schema = one_schema first.pages header s.header h.spelled h.in_range h.clean s.spelled s.in_range s.clean ∙ s.schema_is in
      let index_is = one_index first.pages header s.header h.spelled h.in_range h.clean s.spelled s.in_range s.clean in
      let next_is : header.next ≡ next = one_next first.pages header s.header h.spelled h.in_range h.clean s.spelled s.in_range s.clean ∙ s.next_is in
      let rows_are = one_count first.pages header s.header h.spelled h.in_range h.clean s.spelled s.in_range s.clean in
      let regions_are = one_number first.pages header s.header h.spelled h.in_range h.clean s.spelled s.in_range s.clean in
      let known : known_pages now.store ≡ first.pages = known_is now.store (ap (λ (s : StoreFacts). s.honest) kept ∙ honest) ∙ ap (λ (s : StoreFacts). s.pages) kept in
      let placed_is : placed_in header.schema (index_of header) now.store ≡ placed =
      ap (λ (x : Schema). placed_in x (index_of header) now.store) schema_is ∙ ap (λ (i : IndexView). placed_in schema i now.store) index_is
      ∙ ap (λ (ps : List (List ℕ)). placed_of schema ps (entries_under (index_of s.header) ps)) known
      ∙ ap (placed_of schema first.pages) s.indexed.entries_are ∙ placed_back first.pages schema placed next s in
      let view : tree_view header.schema (index_of header) header.regions header.next header.rows false false now ≡ view_with schema placed (index_of s.header) s.header.regions next s.header.rows now =
      ap (λ (ps : List Placed). view_with header.schema ps (index_of header) header.regions header.next header.rows now) placed_is
      ∙ ap (λ (x : Schema). view_with x placed (index_of header) header.regions header.next header.rows now) schema_is
      ∙ ap (λ (i : IndexView). view_with schema placed i header.regions header.next header.rows now) index_is
      ∙ ap (λ (n : ℕ). view_with schema placed (index_of s.header) n header.next header.rows now) regions_are
      ∙ ap (λ (n : ℕ). view_with schema placed (index_of s.header) s.header.regions n header.rows now) next_is
      ∙ ap (λ (n : ℕ). view_with schema placed (index_of s.header) s.header.regions next n now) rows_are in
      (subst IsSound (sym view) sound_view, schema_is, placed_is, next_is)
