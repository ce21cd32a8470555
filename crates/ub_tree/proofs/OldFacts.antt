-- A sound tree that stands over the pages of an old store: these are a closed table of its regions.
use Rattle.std.proofs.Common.{rules, ◌≡◌, ◌≢◌, ◌≤◌, ◌<◌, ◌^◌, ◌++◌, ◌∙◌, inl, inr, ℕ, zero, suc, List, [], ◌∷◌, Some, None, nat_eq, length, map, slice_get, sym, subst, refl, arith}
use Rattle.ub_tree.proofs.Common.{All, All-from_recursion, all_append, all_more, AllByRecursion, AreBelow, AreKeysAscending, AreOldPages, ArePlaced, AreTold}
use Rattle.ub_tree.proofs.Common.{directory_of, distinct_apart, distinct_cons, distinct_first, distinct_join, distinct_left, distinct_right, Entry, entry_of}
use Rattle.ub_tree.proofs.Common.{first_keys, HasIndex, HasOldHeader, header_page_of, index_of, IndexView, IsDirectory, IsDistinct, IsHonest, IsOutside}
use Rattle.ub_tree.proofs.Common.{IsRegion, IsSound, kept_index, kept_pages, kept_under, Key, last_address, OldHeader, page_count, pages_under, PagesStay}
use Rattle.ub_tree.proofs.Common.{Placed, recursion_from_All, region_page, regions_in, reserved, slice_get_within, StandsOver, StoreFacts, top, TreeView}
use Rattle.ub_tree.proofs.Common.{versions, within_store}
use Rattle.ub_region.proofs.AddressFacts.{small_address}
use Rattle.ub_tree.proofs.ApartFacts.{IsOnPage}
use Rattle.ub_tree.proofs.ChainFacts.{chain_apart, chain_differ, chain_within, each_of_chain}
use Rattle.ub_tree.proofs.TreeFacts.{firsts_placed}

pub positive : (n : ℕ) → 0 ≢ n → 1 ≤ n
positive zero differ = absurd (differ refl)
positive (suc n) differ = omega arith

module _ (from : StoreFacts) (head : OldHeader) (t : TreeView) (has : HasOldHeader from head) (s : StandsOver from head t) (honest : IsHonest from) (sound : IsSound t) where
  abbrev numbers_of_regions : List ℕ
  numbers_of_regions = map (λ (p : Placed). p.page) t.placed

  abbrev IsSpelledNow : Placed → Type 0
  IsSpelledNow p = slice_get t.store.pages p.page ≡ Some (region_page t.schema p.region)

  abbrev WasSpelled : Placed → Type 0
  WasSpelled p = slice_get from.pages p.page ≡ Some (region_page t.schema p.region)

  spelled_now : AllByRecursion IsSpelledNow t.placed
  spelled_now = recursion_from_All IsSpelledNow t.placed sound.placed_are.spelled

  outside_first : IsOutside 0 numbers_of_regions
  outside_first = (distinct_apart (reserved t.inner.index t.store.pages) numbers_of_regions sound.placed_are.own).0

  differ_each : IsDistinct nat_eq numbers_of_regions
  differ_each = distinct_right (reserved t.inner.index t.store.pages) numbers_of_regions sound.placed_are.own

  first_page : slice_get from.pages 0 ≡ Some (header_page_of head.version head.header)
  first_page = has.spelled honest

  some_pages : 0 < length from.pages
  some_pages = slice_get_within from.pages 0 (header_page_of head.version head.header) first_page

  -- the pages of the regions are those of the old store
  was_each : (ps : List Placed) → IsOutside 0 (map (λ (p : Placed). p.page) ps) → AllByRecursion (λ p. p.page < page_count from) ps → AllByRecursion IsSpelledNow ps → AllByRecursion WasSpelled ps
  was_each [] out less at = tt
  was_each (p ∷ ps) out less at = (sym (s.pages_are p.page (positive p.page out.0) less.0) ∙ at.0, was_each ps out.1 less.1 at.1)

  on_each : (ps : List Placed) → IsOutside 0 (map (λ (p : Placed). p.page) ps) → AllByRecursion (IsRegion t.schema) (regions_in ps) → AllByRecursion WasSpelled ps
      → AllByRecursion (IsOnPage t.schema from.pages) ps
  on_each [] out are at = tt
  on_each (p ∷ ps) out are at = (record { is = are.0; spelled = at.0; some = positive p.page out.0 }, on_each ps out.1 are.1 at.1)

  below_each : (ps : List Placed) → AreBelow (page_count from) (map entry_of ps) → AllByRecursion (λ p. p.page < page_count from) ps
  below_each [] h = tt
  below_each (p ∷ ps) h = (h.0, below_each ps h.1)

  -- where they are told, the pages are a closed table
  are_by : (numbers : List ℕ) → AreTold head.version head.header from.pages (map entry_of t.placed) numbers → ArePlaced t.schema t.placed (0 ∷ numbers) from.pages
      → AreOldPages head.version from.pages t.schema t.placed t.next
  are_by numbers told placed_are = record {
    header = head.header;
    numbers = numbers;
    spelled = first_page;
    in_range = record { version = has.is.version; header = has.is.header };
    clean = has.clean;
    schema_is = sym s.schema_is;
    next_is = sym s.next_is;
    rows_are = sym s.rows_are ∙ sound.rows_are;
    regions_are = sym s.count_is ∙ sound.count_is;
    told = told;
    well_formed = sound.regions_are;
    placed_are = placed_are;
  }

  -- in version 1 by the directory
  module _ (first : head.version ≡ 1) where
    abbrev IsTheDirectory : List Entry → Type 0
    IsTheDirectory entries = IsDirectory from.pages (directory_of head.header) (s.by_directory first).2 entries

    directory : IsTheDirectory (map entry_of t.placed)
    directory = subst IsTheDirectory sound.indexed.entries_are (s.by_directory first).3

    below : AllByRecursion (λ p. p.page < page_count from) t.placed
    below = below_each t.placed (subst (λ (es : List Entry). AreBelow (page_count from) es) sound.indexed.entries_are (s.by_directory first).4)

    was_spelled : AllByRecursion WasSpelled t.placed
    was_spelled = was_each t.placed outside_first below spelled_now

    small : last_address head.header.schema.dims < 256 ^ 16
    small = small_address head.header.schema.dims (last_address head.header.schema.dims) head.header.schema.counts.few_dims (omega arith)

    up : AreKeysAscending (first_keys (map entry_of t.placed))
    up = subst (λ (ks : List Key). AreKeysAscending ks) (sym (firsts_placed t.placed)) sound.regions_are.ascending

    old_by_directory : AreOldPages head.version from.pages t.schema t.placed t.next
    old_by_directory =
        let ns = (s.by_directory first).2 in
        let of_chain = each_of_chain from.pages ns (map entry_of t.placed) directory.directory in
        let none_first : IsOutside 0 ns = all_more (λ n. 1 ≤ n) (λ n. 0 ≢ n) (λ n some e. omega arith) ns directory.some_pages in
        are_by ns (inl (first, directory)) (record {
          spelled = All-from_recursion WasSpelled t.placed was_spelled;
          own = distinct_cons 0 (ns ++ numbers_of_regions) (all_append (λ m. 0 ≢ m) ns numbers_of_regions none_first outside_first)
              (distinct_join ns numbers_of_regions
              (chain_differ from.pages (last_address head.header.schema.dims) small ns (map entry_of t.placed) directory.directory directory.each up) differ_each
              (chain_apart from.pages t.schema ns t.placed of_chain (on_each t.placed outside_first sound.regions_are.each was_spelled)));
          within = All-from_recursion (λ n. n < length from.pages) (0 ∷ ns) (some_pages, chain_within from.pages ns of_chain);
        })

  -- in version 2 by the index
  module _ (second : head.version ≡ 2) where
    count : page_count t.store ≡ page_count from
    count = (s.by_index second).0

    index_is : t.inner.index ≡ index_of head.header
    index_is = (s.by_index second).1

    abbrev index : IndexView
    index = index_of head.header

    now_indexed : HasIndex index t.store.pages (map entry_of t.placed)
    now_indexed = subst (λ (i : IndexView). HasIndex i t.store.pages (map entry_of t.placed)) index_is sound.indexed

    now_placed : ArePlaced t.schema t.placed (reserved index t.store.pages) t.store.pages
    now_placed = subst (λ (i : IndexView). ArePlaced t.schema t.placed (reserved i t.store.pages) t.store.pages) index_is sound.placed_are

    outside_index : IsOutside 0 (pages_under t.store.pages index.levels (top index.root))
    outside_index = distinct_first 0 (pages_under t.store.pages index.levels (top index.root)) (distinct_left (reserved index t.store.pages) numbers_of_regions now_placed.own)

    -- each page but the first is the old one
    was : (n : ℕ) → 1 ≤ n → n < length t.store.pages → slice_get from.pages n ≡ slice_get t.store.pages n
    was n some less = sym (s.pages_are n some (omega (arith, count)))

    stay_each : (ns : List ℕ) → IsOutside 0 ns → AllByRecursion (λ n. n < length t.store.pages) ns → PagesStay t.store.pages from.pages ns
    stay_each [] out less = tt
    stay_each (n ∷ ns) out less = (was n (positive n out.0) less.0, stay_each ns out.1 less.1)

    stay : PagesStay t.store.pages from.pages (pages_under t.store.pages index.levels (top index.root))
    stay = stay_each (pages_under t.store.pages index.levels (top index.root)) outside_index
        (within_store index.last t.store.pages index.levels (top index.root) None now_indexed.under_it)

    was_indexed : HasIndex index from.pages (map entry_of t.placed)
    was_indexed = search (rules, kept_index, kept_under, now_indexed, stay)

    within_each : (ps : List Placed) → AllByRecursion IsSpelledNow ps → AllByRecursion (λ p. p.page < page_count from) ps
    within_each [] at = tt
    within_each (p ∷ ps) at = search (rules, (within_each ps at.1), count, slice_get_within)

    old_by_index : AreOldPages head.version from.pages t.schema t.placed t.next
    old_by_index =
        let numbers = kept_pages t.store.pages from.pages index.levels (top index.root) stay in
        are_by (pages_under from.pages index.levels (top index.root)) (inr (second, was_indexed, refl))
        (subst (λ (ns : List ℕ). ArePlaced t.schema t.placed (0 ∷ ns) from.pages) (sym numbers) (record {
          spelled = All-from_recursion WasSpelled t.placed (was_each t.placed outside_first (within_each t.placed spelled_now) spelled_now);
          own = now_placed.own;
          within = subst (λ (n : ℕ). All (λ m. m < n) (reserved index t.store.pages)) count now_placed.within;
        }))

  pub old_are : AreOldPages head.version from.pages t.schema t.placed t.next
  old_are = search (rules, old_by_directory, old_by_index, versions)
