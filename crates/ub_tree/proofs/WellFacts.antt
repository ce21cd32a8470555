-- What a check takes of a tree is what makes its pages sound, and over sound pages it takes all.
use Rattle.std.proofs.Common.{rules, ◌≡◌, ◌≤◌, ◌<◌, ◌^◌, ℕ, List, [], ◌∷◌, Option, Some, None, map, slice_get, ap, refl, sym, ◌∙◌, arith, subst}
use Rattle.ub_tree.proofs.Common.{All-from_recursion, all_more, AllByRecursion, AreApart, AreKeysAscending, ArePlaced, AreRegions, AreSoundPages, ascending_of}
use Rattle.ub_tree.proofs.Common.{Asked, asked_of, EachTo, Entry, entry_of, first_keys, firsts_of, HasIndex, header_page, IndexView, IsEntry, IsHonest}
use Rattle.ub_tree.proofs.Common.{IsIndexOn, IsNone, IsOpened, IsRegion, IsRooted, IsSound, IsTaken, IsUnder, IsWell, Key, last_address, new_below, new_differ}
use Rattle.ub_tree.proofs.Common.{new_of, Placed, placed_at, placed_of, recursion_from_All, region_page, region_parts, regions, regions_in, reserved, Row}
use Rattle.ub_tree.proofs.Common.{Schema, slice_get_within, StandsHere, StoreFacts, taken_walk, TakesTree, top, TreeView, under, walk_taken, within_store}
use Rattle.ub_check.specs.Checking.{numbers_of}
use Rattle.ub_index.proofs.PlaceFacts.{begins, each_entry, up}
use Rattle.ub_tree.proofs.ApartFacts.{IsOnPage, all_differ, under_differ, under_from}
use Rattle.ub_tree.proofs.StoredFacts.{IsSpelled, IsTold, placed_told}
use Rattle.ub_tree.proofs.TreeFacts.{entries_back, firsts_back}
use Rattle.ub_tree.proofs.CallFacts.{last_small}

-- what holds of the numbers of rows holds of the rows
rows_below : (bound : ℕ) (rows : List Row) → AllByRecursion (λ n. n < bound) (numbers_of rows) → AllByRecursion (λ row. row.number < bound) rows
rows_below bound [] h = tt
rows_below bound (row ∷ rows) h = (h.0, rows_below bound rows h.1)

numbers_below : (bound : ℕ) (rows : List Row) → AllByRecursion (λ row. row.number < bound) rows → AllByRecursion (λ n. n < bound) (numbers_of rows)
numbers_below bound [] h = tt
numbers_below bound (row ∷ rows) h = (h.0, numbers_below bound rows h.1)

module _ (asked : Asked) where
  -- regions that stand where their entries tell, in order
  each_region : (es : List Entry) (end : Option Key) → EachTo (λ e o. StandsHere asked e o (placed_at asked.schema asked.pages e).region) es end
      → AllByRecursion (IsRegion asked.schema) (regions_in (placed_of asked.schema asked.pages es))
  each_region [] end h = tt
  each_region (e ∷ es) end h = (h.0.is, each_region es end h.1)

  each_apart : (es : List Entry) (end : Option Key) → EachTo (λ e o. StandsHere asked e o (placed_at asked.schema asked.pages e).region) es end
      → AreApart asked.schema.dims (regions_in (placed_of asked.schema asked.pages es))
  each_apart [] end h = tt
  each_apart (e ∷ []) end h = tt
  each_apart (e ∷ f ∷ es) end h = (h.0.held.1, each_apart (f ∷ es) end h.1)

  each_on : (es : List Entry) (end : Option Key) → EachTo (λ e o. StandsHere asked e o (placed_at asked.schema asked.pages e).region) es end
      → AllByRecursion (IsEntry asked.last) es → AllByRecursion (IsOnPage asked.schema asked.pages) (placed_of asked.schema asked.pages es)
  each_on [] end h all = tt
  each_on (e ∷ es) end h all = (record { is = h.0.is; spelled = h.0.spelled; some = all.0.some_page }, each_on es end h.1 all.1)

  -- and back
  each_stands : (es : List Entry) → AllByRecursion (IsRegion asked.schema) (regions_in (placed_of asked.schema asked.pages es))
      → AreApart asked.schema.dims (regions_in (placed_of asked.schema asked.pages es))
      → AllByRecursion (λ p. slice_get asked.pages p.page ≡ Some (region_page asked.schema p.region)) (placed_of asked.schema asked.pages es)
      → EachTo (λ e o. StandsHere asked e o (placed_at asked.schema asked.pages e).region) es None
  each_stands [] regions apart spelled = tt
  each_stands (e ∷ []) regions apart spelled = search rules
  each_stands (e ∷ f ∷ es) regions apart spelled = search (rules, (each_stands (f ∷ es) regions.1 apart.1 spelled.1))

none_met : (ns : List ℕ) → AllByRecursion (λ n. IsNone n []) ns
none_met [] = tt
none_met (n ∷ ns) = (tt, none_met ns)

-- a tree whose index stands on honest pages, and whose regions are taken
module _ (t : TreeView) (honest : IsHonest t.store) (some : 1 ≤ t.inner.index.levels) (root : 1 ≤ t.inner.index.root) (small : t.inner.index.last < 2 ^ 128)
    (first : List ℕ) (there : slice_get t.store.pages 0 ≡ Some first) (takes : TakesTree t t.placed) where
  abbrev entries : List Entry
  entries = under t.store.pages t.inner.index.levels (top t.inner.index.root)

  taken : IsUnder t.inner.index.last t.store.pages t.inner.index.levels (top t.inner.index.root) None × IsTaken (asked_of t) entries None [] t.placed
  taken = walk_taken (asked_of t) t.inner.index.levels (top t.inner.index.root) None [] t.placed takes

  on : IsIndexOn t.inner.index t.store
  on = record { honest = honest; some = some; under_it = taken.0 }

  placed_is : t.placed ≡ placed_of t.schema t.store.pages entries
  placed_is = taken.1.after_is

  ascending : AreKeysAscending (firsts_of (regions_in (placed_of t.schema t.store.pages entries)))
  ascending = subst (λ (ks : List Key). AreKeysAscending ks) (sym (firsts_back t.schema t.store.pages entries)) (ascending_of (first_keys entries) (up t.inner.index t.store on))

  pub well_index : HasIndex t.inner.index t.store.pages (map entry_of t.placed)
  well_index = search (rules, entries_back, placed_is, taken)

  pub well_regions : AreRegions t.schema t.next (regions t)
  well_regions = search (rules, ascending, begins, each_apart, each_region, firsts_back, new_below, new_differ, on, placed_is, rows_below, taken)

  pub well_placed : ArePlaced t.schema t.placed (reserved t.inner.index t.store.pages) t.store.pages
  well_placed = search (rules, All-from_recursion, IsOnPage, all_differ, all_more, ascending, each_entry, each_on, on, placed_is, slice_get_within, taken, under_differ, under_from, within_store)

-- a tree that was opened, and whose pages are well, is sound, and so are its pages
module _ (facts : StoreFacts) (t : TreeView) (honest : IsHonest facts) (opened : IsOpened facts t) (well : IsWell t) where
  rooted : IsRooted facts.pages opened.header
  rooted = opened.rooted honest

  same_pages : t.store.pages ≡ facts.pages
  same_pages = ap (λ (s : StoreFacts). s.pages) opened.store_is

  is_honest : IsHonest t.store
  is_honest = subst (λ (s : StoreFacts). IsHonest s) (sym opened.store_is) honest

  first_page : slice_get t.store.pages 0 ≡ Some (header_page opened.header)
  first_page = ap (λ (ps : List (List ℕ)). slice_get ps 0) same_pages ∙ rooted.spelled

  some_root : 1 ≤ t.inner.index.root
  some_root = let some = rooted.in_range.numbers.root in subst (λ (i : IndexView). 1 ≤ i.root) (sym opened.index_is) some

  some_level : 1 ≤ t.inner.index.levels
  some_level = let some = rooted.in_range.numbers.levels.0 in subst (λ (i : IndexView). 1 ≤ i.levels) (sym opened.index_is) some

  small_last : t.inner.index.last < 2 ^ 128
  small_last = subst (λ (i : IndexView). i.last < 2 ^ 128) (sym opened.index_is) (last_small opened.header.schema.dims opened.header.schema.counts.few_dims)

  indexed : HasIndex t.inner.index t.store.pages (map entry_of t.placed)
  indexed = well_index t is_honest some_level some_root small_last (header_page opened.header) first_page well.takes

  regions_are : AreRegions t.schema t.next (regions t)
  regions_are = well_regions t is_honest some_level some_root small_last (header_page opened.header) first_page well.takes

  placed_are : ArePlaced t.schema t.placed (reserved t.inner.index t.store.pages) t.store.pages
  placed_are = well_placed t is_honest some_level some_root small_last (header_page opened.header) first_page well.takes

  sound_pages : AreSoundPages t.store.pages t.schema t.placed t.next
  sound_pages = record {
    header = opened.header;
    spelled = first_page;
    in_range = rooted.in_range;
    clean = rooted.clean;
    schema_is = sym opened.schema_is;
    next_is = sym opened.next_is;
    rows_are = sym opened.rows_are ∙ well.rows_are;
    regions_are = sym opened.count_is ∙ well.count_is;
    indexed = subst (λ (i : IndexView). HasIndex i t.store.pages (map entry_of t.placed)) opened.index_is indexed;
    well_formed = regions_are;
    placed_are = subst (λ (i : IndexView). ArePlaced t.schema t.placed (reserved i t.store.pages) t.store.pages) opened.index_is placed_are;
  }

  pub opened_pages : AreSoundPages facts.pages t.schema t.placed t.next
  opened_pages = subst (λ (ps : List (List ℕ)). AreSoundPages ps t.schema t.placed t.next) same_pages sound_pages

  pub opened_sound : IsSound t
  opened_sound =
      let some = rooted.in_range.numbers.some_next in
      let most = rooted.in_range.numbers.last_next in
      let next = opened.next_is in
      let few = rooted.in_range.regions in
      let count = opened.count_is in
      let own = well.count_is in
      record {
        working = opened.working;
        honest = is_honest;
        last_is = ap (λ (i : IndexView). i.last) opened.index_is ∙ ap (λ (x : Schema). last_address x.dims) (sym opened.schema_is);
        indexed = indexed;
        regions_are = regions_are;
        placed_are = placed_are;
        count_is = well.count_is;
        rows_are = well.rows_are;
        some_next = omega arith;
        last_next = omega arith;
        few = omega arith;
        closed = λ _. sound_pages;
        marked = λ e. (let un = opened.unchanged in cc);
      }

-- a sound tree's regions are taken
module _ (t : TreeView) (sound : IsSound t) where
  told_each : (ps : List Placed) → AllByRecursion (IsRegion t.schema) (regions_in ps) → AllByRecursion (IsSpelled t.schema t.store.pages) ps
      → AllByRecursion (IsTold t.schema t.store.pages) ps
  told_each [] each spelled = tt
  told_each (p ∷ ps) each spelled =
      ((spelled.0, (region_parts t.schema p.region (region_page t.schema p.region) each.0 refl).on), told_each ps each.1 spelled.1)

  told : placed_of t.schema t.store.pages (map entry_of t.placed) ≡ t.placed
  told = search (rules, placed_told, recursion_from_All, told_each)

  sound_entries : under t.store.pages t.inner.index.levels (top t.inner.index.root) ≡ map entry_of t.placed
  sound_entries = sound.indexed.entries_are

  told_under : placed_of t.schema t.store.pages (under t.store.pages t.inner.index.levels (top t.inner.index.root)) ≡ t.placed
  told_under = ap (λ (es : List Entry). placed_of t.schema t.store.pages es) sound_entries ∙ told

  sound_taken : IsTaken (asked_of t) (under t.store.pages t.inner.index.levels (top t.inner.index.root)) None [] t.placed
  sound_taken = search (rules, each_stands, new_of, none_met, numbers_below, recursion_from_All, regions_are, told_under)

  -- so its pages are well
  pub sound_well : IsWell t
  sound_well = search (rules, sound_taken, taken_walk)
