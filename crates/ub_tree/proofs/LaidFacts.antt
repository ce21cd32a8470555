-- The tree of regions that were laid on pages: it is sound, and these are its regions.
use Rattle.std.proofs.Common.{◌≡◌, ◌≢◌, ◌≤◌, ◌<◌, ◌+◌, ◌^◌, ◌++◌, ◌∙◌, ℕ, suc, true, false, List, [], ◌∷◌, Some, None, Err, append_assoc, ap, arith, length, map, refl, slice_get, subst, sym}
use Rattle.ub_tree.proofs.Common.{All-from_recursion, all_append, all_more, AllByRecursion, AreChecked, ArePlaced, AreRegions, Counts, distinct_cons}
use Rattle.ub_tree.proofs.Common.{distinct_join, Entry, entry_of, firsts_of, HasIndex, HasMark, Header, index_view, IndexView, IsCreateFault, IsDistinct}
use Rattle.ub_tree.proofs.Common.{IsHonest, IsOutside, IsRegion, IsSound, IsTree, last_address, length-append, nat_eq, page_at, page_count, PagerView}
use Rattle.ub_tree.proofs.Common.{pages_under, Placed, placed_in, placed_of, region_page, region_parts, RegionRows, regions_in, reserved, Root, rows_of, Schema}
use Rattle.ub_tree.proofs.Common.{StoreFacts, StoreFault, top, tree_fault, tree_view, TreeView, Written}
use Rattle.ub_laying.proofs.BegunFacts.{few_pages}
use Rattle.ub_laying.specs.Begun.{BegunView, CanLay, IsLaidFor, LaysBegun, root_in}
use Rattle.ub_laying.specs.Laying.{AreLaid, entries_from}
use Rattle.ub_tree.proofs.CreationFacts.{none_twice}
use Rattle.ub_tree.proofs.PutFacts.{view_placed}
use Rattle.ub_tree.proofs.StoredFacts.{IsSpelled, IsTold, placed_told}
use Rattle.ub_tree.specs.Laid.{CountsFault, IsLaid, LaysTable, placed_from}
use Rattle.ub_writing.specs.Creation.{IsLayoutFault}
use Rattle.ub_store.specs.declared.fault.StoreFault.TheVariants as store

-- ---- regions on pages that follow each other

places_entries : (n : ℕ) (regions : List RegionRows) → map entry_of (placed_from n regions) ≡ entries_from n (firsts_of regions)
places_entries n [] = refl
places_entries n (r ∷ regions) = ap (λ (es : List Entry). record { first = r.first; page = n } ∷ es) (places_entries (suc n) regions)

regions_back : (n : ℕ) (regions : List RegionRows) → regions_in (placed_from n regions) ≡ regions
regions_back n [] = refl
regions_back n (r ∷ regions) = ap (λ (rs : List RegionRows). r ∷ rs) (regions_back (suc n) regions)

length-placed : (n : ℕ) (regions : List RegionRows) → length (placed_from n regions) ≡ length regions
length-placed n [] = refl
length-placed n (r ∷ regions) = ap (λ (k : ℕ). suc k) (length-placed (suc n) regions)

get_middle : (front back : List (List ℕ)) (page : List ℕ) → slice_get (front ++ page ∷ back) (length front) ≡ Some page
get_middle [] back page = refl
get_middle (x ∷ front) back page = get_middle front back page

told_from : (schema : Schema) (pages front back : List (List ℕ)) (n : ℕ) (regions : List RegionRows) → pages ≡ (front ++ map (region_page schema) regions) ++ back → length front ≡ n
    → AllByRecursion (IsRegion schema) regions → AllByRecursion (IsTold schema pages) (placed_from n regions)
told_from schema pages front back n [] is long each = tt
told_from schema pages front back n (r ∷ regions) is long each =
    let page = region_page schema r in
    let rest = map (region_page schema) regions in
    let split : (front ++ page ∷ rest) ++ back ≡ front ++ page ∷ (rest ++ back) = append_assoc front (page ∷ rest) back in
    let at : slice_get pages n ≡ Some page = ap (slice_get pages) (sym long) ∙ ap (λ (ps : List (List ℕ)). slice_get ps (length front)) (is ∙ split) ∙ get_middle front (rest ++ back) page in
    let moved : front ++ page ∷ rest ≡ (front ++ page ∷ []) ++ rest = sym (append_assoc front (page ∷ []) rest) in
    let longer : length (front ++ page ∷ []) ≡ suc n = length-append front (page ∷ []) ∙ (omega arith) in (
      (at, (region_parts schema r page each.0 refl).on),
      told_from schema pages (front ++ page ∷ []) back (suc n) regions (is ∙ ap (λ (ps : List (List ℕ)). ps ++ back) moved) longer each.1,
    )

spelled_of : (schema : Schema) (pages : List (List ℕ)) (placed : List Placed) → AllByRecursion (IsTold schema pages) placed → AllByRecursion (IsSpelled schema pages) placed
spelled_of schema pages [] told = tt
spelled_of schema pages (p ∷ placed) told = (told.0.0, spelled_of schema pages placed told.1)

abbrev numbers : List Placed → List ℕ
numbers placed = map (λ (p : Placed). p.page) placed

numbers_within : (n : ℕ) (regions : List RegionRows) → AllByRecursion (λ m. (n ≤ m) × (m < n + length regions)) (numbers (placed_from n regions))
numbers_within n [] = tt
numbers_within n (r ∷ regions) = (
  (omega arith, omega arith),
  all_more (λ m. (suc n ≤ m) × (m < suc n + length regions)) (λ m. (n ≤ m) × (m < n + length (r ∷ regions)))
      (λ m h. (let low = h.0 in omega arith, let high = h.1 in omega arith)) (numbers (placed_from (suc n) regions)) (numbers_within (suc n) regions),
)

numbers_distinct : (n : ℕ) (regions : List RegionRows) → IsDistinct nat_eq (numbers (placed_from n regions))
numbers_distinct n [] = none_twice
numbers_distinct n (r ∷ regions) =
    distinct_cons n (numbers (placed_from (suc n) regions))
    (all_more (λ m. (suc n ≤ m) × (m < suc n + length regions)) (λ m. n ≢ m) (λ m h e. let low = h.0 in absurd (omega arith)) (numbers (placed_from (suc n) regions)) (numbers_within (suc n) regions))
    (numbers_distinct (suc n) regions)

-- ---- the tree

module _ (schema : Schema) (next : ℕ) (grown : List RegionRows) (can : CanLay schema next grown) (old : StoreFacts) (pager : PagerView) (root : Root) (one : page_count old ≡ 1)
    (laid : AreLaid schema grown old.pages pager.store.pages root) (honest : IsHonest pager.store) (level : 1 ≤ root.level) where
  abbrev pages : List (List ℕ)
  pages = pager.store.pages

  abbrev index : IndexView
  index = index_view root.page root.level (last_address schema.dims)

  abbrev placed : List Placed
  placed = placed_from 1 grown

  told : AllByRecursion (IsTold schema pages) placed
  told = told_from schema pages old.pages laid.pages.0 1 grown laid.pages.1 one can.regions_are.each

  entries : map entry_of placed ≡ entries_from (page_count old) (firsts_of grown)
  entries = places_entries 1 grown ∙ ap (λ (n : ℕ). entries_from n (firsts_of grown)) (sym one)

  pub laid_placed : placed_in schema index pager.store ≡ placed
  laid_placed =
      view_placed schema index pager.store honest ∙ ap (placed_of schema pages) (laid.indexed.entries_are ∙ sym entries) ∙ placed_told schema pages placed told

  laid_indexed : HasIndex index pages (map entry_of placed)
  laid_indexed = record { some = level; under_it = laid.indexed.under_it; entries_are = laid.indexed.entries_are ∙ sym entries }

  abbrev inner : List ℕ
  inner = pages_under pages root.level (top root.page)

  abbrev IsBehind : ℕ → Type 0
  IsBehind n = (page_count old + length grown ≤ n) × (n < length pages)

  behind : AllByRecursion IsBehind inner
  behind = laid.indexed.within

  -- none of the index's pages is a region's
  outside : (n : ℕ) → IsBehind n → IsOutside n (numbers placed)
  outside n h =
      let low = h.0 in
      all_more (λ m. (1 ≤ m) × (m < 1 + length grown)) (λ m. n ≢ m) (λ m k e. let high = k.1 in absurd (omega arith)) (numbers placed) (numbers_within 1 grown)

  zero_outside : IsOutside 0 (inner ++ numbers placed)
  zero_outside =
      all_append (λ m. 0 ≢ m) inner (numbers placed) (all_more IsBehind (λ m. 0 ≢ m) (λ m h e. let low = h.0 in absurd (omega arith)) inner behind)
      (all_more (λ m. (1 ≤ m) × (m < 1 + length grown)) (λ m. 0 ≢ m) (λ m h e. let low = h.0 in absurd (omega arith)) (numbers placed) (numbers_within 1 grown))

  some_page : 0 < length pages
  some_page =
      let is = ap length laid.pages.1 in
      let a = length-append (old.pages ++ map (region_page schema) grown) laid.pages.0 in
      let b = length-append old.pages (map (region_page schema) grown) in
      omega arith

  laid_are : ArePlaced schema placed (reserved index pages) pages
  laid_are = record {
    spelled = All-from_recursion (IsSpelled schema pages) placed (spelled_of schema pages placed told);
    own = distinct_cons 0 (inner ++ numbers placed) zero_outside
        (distinct_join inner (numbers placed) laid.indexed.reached (numbers_distinct 1 grown) (all_more IsBehind (λ n. IsOutside n (numbers placed)) outside inner behind));
    within = All-from_recursion (λ n. n < length pages) (0 ∷ inner) (some_page, all_more IsBehind (λ n. n < length pages) (λ n h. h.1) inner behind);
  }

  abbrev t : TreeView
  t = tree_view schema index (length grown) next (length (rows_of grown)) true false pager

  pub laid_regions : regions_in (placed_in schema index pager.store) ≡ grown
  laid_regions = ap regions_in laid_placed ∙ regions_back 1 grown

  pub laid_sound : HasMark schema pages → IsSound t
  laid_sound mark =
      let few = (few_pages schema next grown can).1 in
      let long = length-placed 1 grown in
      let fewer = can.fewer in
      record {
        working = refl;
        honest = honest;
        last_is = refl;
        indexed = subst (λ (ps : List Placed). HasIndex index pages (map entry_of ps)) (sym laid_placed) laid_indexed;
        regions_are = subst (λ (rs : List RegionRows). AreRegions schema next rs) (sym laid_regions) can.regions_are;
        placed_are = subst (λ (ps : List Placed). ArePlaced schema ps (reserved index pages) pages) (sym laid_placed) laid_are;
        count_is = sym (ap (λ (ps : List Placed). length ps) laid_placed ∙ long);
        rows_are = ap (λ (rs : List RegionRows). length (rows_of rs)) (sym laid_regions);
        some_next = omega arith;
        last_next = can.last_next;
        few = subst (λ (ps : List Placed). length ps < 2 ^ 32) (sym laid_placed) (omega arith);
        closed = λ e. cc;
        marked = λ _. mark;
      }

-- ---- what is answered

-- the tree of regions that were laid where a table was begun
pub laid_tree : (begun : BegunView) (next : ℕ) (grown : List RegionRows) (header : Header) (index : IndexView) (pager : PagerView) → CanLay begun.schema next grown
    → IsLaidFor begun next grown header index pager → IsLaid begun next grown (tree_view header.schema index header.regions header.next header.rows true false pager)
laid_tree begun next grown header index pager can on =
    let schema = begun.schema in
    let root = root_in header in
    let still : IsHonest begun.store → IsHonest pager.store = λ honest. ap (λ (s : StoreFacts). s.honest) on.store_is ∙ honest in
    let level = on.root.low in
    let count = on.count in
    rw (on.schema_is, on.index_is, on.regions_are, on.next_is, on.rows_are) (record {
      schema_is = refl;
      sound = λ honest. laid_sound schema next grown can begun.store pager root on.one (on.laid honest) (still honest) level (on.marked honest);
      placed_are = λ honest. laid_placed schema next grown can begun.store pager root on.one (on.laid honest) (still honest) level;
      regions_are = λ honest. laid_regions schema next grown can begun.store pager root on.one (on.laid honest) (still honest) level;
      count_is = refl;
      rows_are = refl;
      next_is = refl;
      store_is = on.store_is;
      pages = omega arith;
      working = refl;
      changed = refl;
      trace_is = on.trace_is;
    })

none_checked : (last : ℕ) (pager : PagerView) → ((n : ℕ) → page_at pager.cached n ≡ None) → AreChecked last pager
none_checked last pager none honest n page at = absurd (let no_way : None ≡ Some page = sym (none n) ∙ at in cc)

-- its parts are those of a tree
pub laid_parts : (begun : BegunView) (next : ℕ) (grown : List RegionRows) (header : Header) (index : IndexView) (pager : PagerView) → CanLay begun.schema next grown
    → IsLaidFor begun next grown header index pager → IsTree header.schema index header.regions header.next header.rows Written pager
laid_parts begun next grown header index pager can on =
    let few = few_pages begun.schema next grown can in
    let some = few.0 in
    let less = few.1 in
    rw (on.schema_is, on.index_is, on.regions_are, on.next_is, on.rows_are) (record {
      last_is = refl;
      some = some;
      few = omega arith;
      fewer = can.fewer;
      last_next = can.last_next;
      mark_is = tt;
      checked = none_checked (last_address begun.schema.dims) pager on.held;
    })

-- why it isn't made: the store's fault, as one of a tree
pub layout_fault : (old : StoreFacts) (fault : StoreFault) → IsLayoutFault old fault → IsCreateFault old (tree_fault fault)
layout_fault old store.Memory h = tt
layout_fault old store.Device h = h
layout_fault old store.BadSize h = absurd h
layout_fault old store.NoPage h = absurd h

lay_counts : (old new : StoreFacts) (fault : StoreFault) → Counts {A = Root} (Err fault) old new → CountsFault (tree_fault fault) old new
lay_counts old new store.Memory h = h
lay_counts old new store.Device h = h
lay_counts old new store.BadSize h = h
lay_counts old new store.NoPage h = h

pub laid_not : {S : Type 0} (facts : S → StoreFacts) (begun : BegunView) (next : ℕ) (grown : List RegionRows) (store : S) (fault : StoreFault)
    → LaysBegun facts begun next grown (Err (record { store = store; fault = fault })) → LaysTable facts begun next grown (Err (record { store = store; fault = tree_fault fault }))
laid_not facts begun next grown store fault lays = record {
  laid = tt;
  unopened = lays.unopened;
  refused = layout_fault begun.store fault lays.refused;
  same = lays.same;
  counts = lay_counts begun.store (facts store) fault lays.counts;
}
