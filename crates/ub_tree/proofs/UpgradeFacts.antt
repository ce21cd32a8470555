-- The pages of an old table, brought over: what stands on them, and why they aren't.
use Rattle.std.proofs.Common.{rules, ◌≡◌, ◌≢◌, ◌≤◌, ◌<◌, ◌+◌, ◌++◌, ◌∙◌, inl, inr, ℕ, zero, suc, true, false, List, [], ◌∷◌, Some, length, map, slice_get, ap, sym, subst, refl, arith}
use Rattle.ub_tree.proofs.Common.{All, All-from_recursion, all_append, all_more, AllByRecursion, AreBelow, AreOldPages, ArePlaced, CanBring, directory_of}
use Rattle.ub_tree.proofs.Common.{distinct_apart, distinct_cons, distinct_first, distinct_join, distinct_left, distinct_right, Entry, entry_of, HasIndex}
use Rattle.ub_tree.proofs.Common.{HasIndexOf, HasOldHeader, head_of, header_page_of, index_of, index_view, IndexView, IsBrought, IsCarried, IsDirectory}
use Rattle.ub_tree.proofs.Common.{IsHonest, IsOutside, kept_index, kept_pages, kept_under, last_address, OldHeader, page_count, PagerView, pages_under}
use Rattle.ub_tree.proofs.Common.{PagesStay, Placed, recursion_from_All, region_page, reserved, Root, root_fits, root_in, Schema, slice_get_within, StandsOver}
use Rattle.ub_tree.proofs.Common.{StoreFacts, top, tree_view, TreeView}
use Rattle.ub_tree.proofs.OldFacts.{positive}
use Rattle.ub_laying.specs.Levels.{index_pages}

-- ---- the index that stands on the new pages

-- what the pages of an old table tell, in terms of the header that was read
module _ (version next : ℕ) (schema : Schema) (placed : List Placed) (from : StoreFacts) (s : AreOldPages version from.pages schema placed next) (head : OldHeader)
    (is : head ≡ head_of version s.header) where
  abbrev entries : List Entry
  entries = map entry_of placed

  each_page : (p : Placed) → slice_get from.pages p.page ≡ Some (region_page schema p.region) → p.page < page_count from
  each_page p at = slice_get_within from.pages p.page (region_page schema p.region) at

  below_each : (ps : List Placed) → AllByRecursion (λ p. slice_get from.pages p.page ≡ Some (region_page schema p.region)) ps → AreBelow (page_count from) (map entry_of ps)
  below_each [] h = tt
  below_each (p ∷ ps) h = (each_page p h.0, below_each ps h.1)

  spelled : AllByRecursion (λ p. slice_get from.pages p.page ≡ Some (region_page schema p.region)) placed
  spelled = recursion_from_All (λ p. slice_get from.pages p.page ≡ Some (region_page schema p.region)) placed s.placed_are.spelled

  below : AreBelow (page_count from) entries
  below = below_each placed spelled

  version_is : head.version ≡ version
  version_is = ap (λ (h : OldHeader). h.version) is

  directory_is : version ≡ 1 → (x : IsDirectory from.pages (directory_of s.header) s.numbers entries) → IsDirectory from.pages (directory_of head.header) s.numbers entries
  directory_is first x = subst (λ (h : OldHeader). IsDirectory from.pages (directory_of h.header) s.numbers entries) (sym is) x

  -- so they can be brought over
  pub can_bring : CanBring head from.pages entries
  can_bring = search (rules, below, directory_is, root_fits, version_is)

  -- ---- no region stands on the first page, nor does the index or the directory

  abbrev numbers_of_regions : List ℕ
  numbers_of_regions = map (λ (p : Placed). p.page) placed

  outside_pages : IsOutside 0 numbers_of_regions
  outside_pages = (distinct_apart (0 ∷ s.numbers) numbers_of_regions s.placed_are.own).0

  outside_numbers : IsOutside 0 s.numbers
  outside_numbers = distinct_first 0 s.numbers (distinct_left (0 ∷ s.numbers) numbers_of_regions s.placed_are.own)

  -- each page of a region is none of the first, and one that there is
  abbrev IsInside : ℕ → Type 0
  IsInside n = (1 ≤ n) × (n < page_count from)

  inside_each : (ps : List Placed) → IsOutside 0 (map (λ (p : Placed). p.page) ps) → AllByRecursion (λ p. slice_get from.pages p.page ≡ Some (region_page schema p.region)) ps
      → AllByRecursion IsInside (map (λ (p : Placed). p.page) ps)
  inside_each [] out at = tt
  inside_each (p ∷ ps) out at = ((positive p.page out.0, each_page p at.0), inside_each ps out.1 at.1)

  inside : AllByRecursion IsInside numbers_of_regions
  inside = inside_each placed outside_pages spelled

  module _ (root : Root) (new : List (List ℕ)) (brought : IsBrought head from new root) (level : 1 ≤ root.level) (more : page_count from ≤ length new)
      (built : version ≡ 1 → HasIndexOf head from new root entries) where
    abbrev last : ℕ
    last = last_address head.header.schema.dims

    abbrev view : IndexView
    view = index_view root.page root.level last

    some_page : 0 < length new
    some_page = let some = slice_get_within from.pages 0 (header_page_of version s.header) s.spelled in omega arith

    moved_each : (ps : List Placed) → AllByRecursion IsInside (map (λ (p : Placed). p.page) ps) → AllByRecursion (λ p. slice_get from.pages p.page ≡ Some (region_page schema p.region)) ps
        → AllByRecursion (λ p. slice_get new p.page ≡ Some (region_page schema p.region)) ps
    moved_each [] in_it at = tt
    moved_each (p ∷ ps) in_it at = (brought.copied p.page in_it.0.0 in_it.0.1 ∙ at.0, moved_each ps in_it.1 at.1)

    moved : All (λ p. slice_get new p.page ≡ Some (region_page schema p.region)) placed
    moved = All-from_recursion (λ p. slice_get new p.page ≡ Some (region_page schema p.region)) placed (moved_each placed inside spelled)

    -- in version 1 the index stands behind the pages that there were
    module _ (first : version ≡ 1) where
      behind : AllByRecursion (λ n. (page_count from ≤ n) × (n < length new)) (pages_under new root.level (top root.page))
      behind = (built first).within

      apart_one : (n : ℕ) → page_count from ≤ n → (ns : List ℕ) → AllByRecursion IsInside ns → IsOutside n ns
      apart_one n far [] h = tt
      apart_one n far (m ∷ ns) h = ((λ e. let less = h.0.1 in absurd (omega arith)), apart_one n far ns h.1)

      built_indexed : HasIndex view new entries
      built_indexed = record { some = level; under_it = (built first).under_it; entries_are = (built first).entries_are }

      built_placed : ArePlaced schema placed (0 ∷ pages_under new root.level (top root.page)) new
      built_placed =
          let ns = pages_under new root.level (top root.page) in
          let apart = all_more (λ n. (page_count from ≤ n) × (n < length new)) (λ n. IsOutside n numbers_of_regions) (λ n h. apart_one n h.0 numbers_of_regions inside) ns behind in
          let zero_out : IsOutside 0 ns = all_more (λ n. (page_count from ≤ n) × (n < length new)) (λ n. 0 ≢ n) (λ n h e. let far = h.0 in let some = slice_get_within from.pages 0 (header_page_of version s.header) s.spelled in absurd (omega arith)) ns behind in
          record {
            spelled = moved;
            own = distinct_cons 0 (ns ++ numbers_of_regions) (all_append (λ m. 0 ≢ m) ns numbers_of_regions zero_out outside_pages)
                (distinct_join ns numbers_of_regions (built first).reached (distinct_right (0 ∷ s.numbers) numbers_of_regions s.placed_are.own) apart);
            within = All-from_recursion (λ n. n < length new) (0 ∷ ns)
                (some_page, all_more (λ n. (page_count from ≤ n) × (n < length new)) (λ n. n < length new) (λ n h. h.1) ns behind);
          }

    -- in version 2 it stands where it stood
    module _ (second : version ≡ 2) (has : HasIndex (index_of s.header) from.pages entries) (numbers_are : s.numbers ≡ pages_under from.pages s.header.levels (top s.header.root)) where
      copied : (n : ℕ) → 1 ≤ n → slice_get new n ≡ slice_get from.pages n
      copied = (brought.index (version_is ∙ second)).0

      as_many : length new ≡ page_count from
      as_many = (brought.index (version_is ∙ second)).1

      view_is : view ≡ index_of s.header
      view_is = search rules

      stay_each : (ns : List ℕ) → IsOutside 0 ns → PagesStay from.pages new ns
      stay_each [] out = tt
      stay_each (zero ∷ ns) out = absurd (out.0 refl)
      stay_each (suc n ∷ ns) out = (copied (suc n) (omega arith), stay_each ns out.1)

      stay : PagesStay from.pages new (pages_under from.pages s.header.levels (top s.header.root))
      stay = subst (λ (ns : List ℕ). PagesStay from.pages new ns) numbers_are (stay_each s.numbers outside_numbers)

      old_indexed : HasIndex (index_of s.header) new entries
      old_indexed = search (rules, kept_index, kept_under, stay)

      old_placed : ArePlaced schema placed (reserved (index_of s.header) new) new
      old_placed = search (rules, as_many, kept_pages, moved, spelled, stay)

    abbrev IsThere : Type 0
    IsThere = HasIndex view new entries × ArePlaced schema placed (reserved view new) new

    there : IsThere
    there = elim s.told [
      | inl first ↦ (built_indexed first.0, built_placed first.0)
      | inr second ↦ subst (λ (i : IndexView). HasIndex i new entries × ArePlaced schema placed (reserved i new) new) (sym (view_is second.0 second.1 second.2))
          (old_indexed second.0 second.1 second.2, old_placed second.0 second.1 second.2)
    ]

    -- so the regions stand on the new pages
    pub carried : IsCarried schema placed next head view new
    carried = search (rules, there)

-- ---- the tree over the pages that were brought over

abbrev pub over : OldHeader → IndexView → PagerView → TreeView
over head i pager = tree_view head.header.schema i head.header.regions head.header.next head.header.rows true false pager

module _ (from : StoreFacts) (head : OldHeader) (i : IndexView) (pager : PagerView) (honest : IsHonest pager.store) (last_is : i.last ≡ last_address head.header.schema.dims) (level : 1 ≤ i.levels)
    (size : head.version ≡ 1 → page_count pager.store ≡ page_count from + index_pages head.header.regions) (brought : IsBrought head from pager.store.pages (root_in i)) where
  pub stands_over : StandsOver from head (over head i pager)
  stands_over = search rules

-- the header of the pages of an old table
pub head_is : (version next : ℕ) (schema : Schema) (placed : List Placed) (from : StoreFacts) (s : AreOldPages version from.pages schema placed next) → HasOldHeader from (head_of version s.header)
head_is version next schema placed from s = record { spelled = λ _. s.spelled; is = s.in_range; clean = s.clean }
