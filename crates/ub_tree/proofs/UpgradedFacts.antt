-- The tree that an upgrade makes: when it is sound, and why it is refused.
use Rattle.std.proofs.Common.{rules, ◌≡◌, ◌≤◌, ◌<◌, ◌^◌, ◌∙◌, inl, inr, ℕ, true, false, List, [], ◌∷◌, Some, None, Result, Ok, Err, IfErr, IfOk, OnOk, MatchResult, map, slice_get, ap, sym, subst, refl, arith}
use Rattle.ub_tree.proofs.Common.{AllByRecursion, AreOldPages, asked_of, entry_of, Failed as HasFailed, HasIndexOf, HasMark, HasOldHeader, HasTable, head_of}
use Rattle.ub_tree.proofs.Common.{header_page_of, index_view, IndexView, IsCarried, IsCheckFault, IsFirstFault, IsHonest, IsMade, IsMadeOf, IsPassing, IsRegion}
use Rattle.ub_tree.proofs.Common.{IsSound, IsUnopened, IsUpgraded, IsUpgradeFault, IsUpgradePassing, IsWell, last_address, Memory, OldHeader, Page, page_count}
use Rattle.ub_tree.proofs.Common.{PageFault, PagerView, Placed, placed_in, read_store, recursion_from_All, region_page, region_parts, regions_in, root_in}
use Rattle.ub_tree.proofs.Common.{Schema, slice_get_within, StandsOver, StopsTree, Store, StoreFacts, top, TreeFault, TreeView, untouched, versions}
use Rattle.ub_check.proofs.StopFacts.{stops_low, stops_there}
use Rattle.ub_tree.proofs.CallFacts.{last_small}
use Rattle.ub_tree.proofs.OldFacts.{old_are}
use Rattle.ub_tree.proofs.SearchFacts.{known_is}
use Rattle.ub_tree.proofs.StoredFacts.{IsSpelled, IsTold, placed_told}
use Rattle.ub_tree.proofs.UpgradeFacts.{carried, over, stands_over}
use Rattle.ub_tree.proofs.WellFacts.{well_index, well_placed, well_regions}
use Rattle.ub_store.specs.declared.fault.StoreFault.TheVariants as store

-- ---- what was made of an old store

module _ (from : StoreFacts) (old new : PagerView) (head : OldHeader) (i : IndexView) (made : IsMade from old new head i) where
  pub carried_by : (version next : ℕ) (schema : Schema) (placed : List Placed) (s : AreOldPages version from.pages schema placed next) → IsHonest from → IsHonest old.store
      → IsMadeOf (head_of version s.header) from new.store.pages (map entry_of placed) head i → IsCarried schema placed next head i new.store.pages
  carried_by version next schema placed s honest begun of =
      subst (λ (x : IndexView). IsCarried schema placed next head x new.store.pages) (ap (index_view i.root i.levels) (sym made.last_is))
      (carried version next schema placed from s head of.0 (root_in i) new.store.pages (made.brought honest begun) made.level made.count
      (λ first. subst (λ (h : OldHeader). HasIndexOf h from new.store.pages (root_in i) (map entry_of placed)) (sym of.0) (of.1 first)))

  pub stands_made : IsHonest from → IsHonest old.store → IsHonest new.store → StandsOver from head (over head i new)
  stands_made honest begun here = stands_over from head i new here made.last_is made.level made.size (made.brought honest begun)

-- ---- the regions of an old table, on the new pages: a sound tree

module _ (schema : Schema) (placed : List Placed) (next : ℕ) (head : OldHeader) (i : IndexView) (pager : PagerView) (has : IsCarried schema placed next head i pager.store.pages)
    (honest : IsHonest pager.store) where
  told_each : (ps : List Placed) → AllByRecursion (IsRegion schema) (regions_in ps) → AllByRecursion (IsSpelled schema pager.store.pages) ps → AllByRecursion (IsTold schema pager.store.pages) ps
  told_each [] regions spelled = tt
  told_each (p ∷ ps) regions spelled = ((spelled.0, (region_parts schema p.region (region_page schema p.region) regions.0 refl).on), told_each ps regions.1 spelled.1)

  placed_is : placed_in head.header.schema i pager.store ≡ placed
  placed_is = search (rules, IsSpelled, known_is, placed_told, recursion_from_All, told_each)

  module _ (header_is : (1 ≤ head.header.next) × (head.header.next ≤ 16777216) × (head.header.regions < 2 ^ 32)) (last_is : i.last ≡ last_address head.header.schema.dims)
      (mark : HasMark head.header.schema pager.store.pages) where
    sound_over : IsSound (over head i pager)
    sound_over = search (rules, placed_is)

    pub table_over : HasTable schema placed next (over head i pager)
    table_over = record { sound = sound_over; schema_is = has.schema_is; regions_are = ap regions_in placed_is; next_is = has.next_is }

-- ---- a tree whose pages are well is sound, where its first page marks it as changed

module _ (head : OldHeader) (i : IndexView) (pager : PagerView) (honest : IsHonest pager.store) (root : 1 ≤ i.root) (level : 1 ≤ i.levels) (last_is : i.last ≡ last_address head.header.schema.dims)
    (header_is : (1 ≤ head.header.next) × (head.header.next ≤ 16777216) × (head.header.regions < 2 ^ 32)) (mark : HasMark head.header.schema pager.store.pages) (well : IsWell (over head i pager)) where
  abbrev made : TreeView
  made = over head i pager

  least : i.last < 2 ^ 128
  least = subst (λ (n : ℕ). n < 2 ^ 128) (sym last_is) (last_small head.header.schema.dims head.header.schema.counts.few_dims)

  pub sound_made : IsSound (over head i pager)
  sound_made =
      let few = header_is.2 in
      let count = well.count_is in
      record {
        working = refl;
        honest = honest;
        last_is = last_is;
        indexed = well_index made honest level root least mark.0 mark.2 well.takes;
        regions_are = well_regions made honest level root least mark.0 mark.2 well.takes;
        placed_are = well_placed made honest level root least mark.0 mark.2 well.takes;
        count_is = well.count_is;
        rows_are = well.rows_are;
        some_next = header_is.0;
        last_next = header_is.1;
        few = omega arith;
        closed = λ e. cc;
        marked = λ _. mark;
      }

-- ---- why a check is refused, of a tree that stands over an old store

module _ (from new : StoreFacts) (head : OldHeader) (i : IndexView) (pager : PagerView) (has : HasOldHeader from head) (root_some : 1 ≤ i.root)
    (last_is : i.last ≡ last_address head.header.schema.dims) (still : IsHonest new → IsHonest pager.store) (fails : pager.store.can_fail ≡ new.can_fail) (more : page_count from ≤ page_count pager.store)
    (stands : IsHonest from → IsHonest new → StandsOver from head (over head i pager)) where
  abbrev t : TreeView
  t = over head i pager

  small : i.last < 2 ^ 128
  small = subst (λ (n : ℕ). n < 2 ^ 128) (sym last_is) (last_small head.header.schema.dims head.header.schema.counts.few_dims)

  module _ (honest : IsHonest from) (new_honest : IsHonest new) where
    s : StandsOver from head t
    s = stands honest new_honest

    abbrev IsOldPage : ℕ → Type 0
    IsOldPage n = (page : List ℕ) × (slice_get from.pages n ≡ Some page)

    first_page : (n : ℕ) → n ≡ 0 → IsOldPage n
    first_page n is = (header_page_of head.version head.header, ap (slice_get from.pages) is ∙ has.spelled honest)

    -- the page at which the check stops is one of the old store
    stopped_page : (n : ℕ) (fault : PageFault) → StopsTree t n (Some fault) → IsOldPage n
    stopped_page n fault stops = elim (stops_there (asked_of t) i.levels (top i.root) None [] n (Some fault) root_some stops) [
      | inl one ↦ first_page n one.0
      | inr (some, (page, at)) ↦ elim (versions head has.is) [
        | inl first ↦
            let d = s.by_directory first in
            elim (stops_low (asked_of t) small (page_count from) i.levels (top i.root) None [] n (Some fault) d.1.under_it d.4 stops) [
              | inl one ↦ first_page n one.0
              | inr less ↦ (page, sym (s.pages_are n some less) ∙ at)
            ]
        | inr second ↦
            let within = slice_get_within pager.store.pages n page at in
            let count = (s.by_index second).0 in
            (page, sym (s.pages_are n some (omega arith)) ∙ at)
      ]
    ]

    refused_page : (n : ℕ) (fault : PageFault) → IsFirstFault t (Page n fault) → IsOldPage n
    refused_page n fault (inl stops) = stopped_page n fault stops
    refused_page n fault (inr ends) = first_page n ends.page_is

    -- or the old store has it not
    missing_page : (n : ℕ) → StopsTree t n None → page_count from ≤ n
    missing_page n h = search (rules, stops_there)

  pub check_fault : (f : TreeFault) → IsCheckFault t f → IsUpgradeFault from new f
  check_fault HasFailed h = absurd (let working : false ≡ true = h in cc)
  check_fault Memory h = tt
  check_fault (Page n fault) h = λ honest new_honest.
      let first = h (still new_honest) in
      let page = refused_page honest new_honest n fault first in
      (page.0, page.1, inr (head, has, inr (t, stands honest new_honest, first)))
  check_fault (Store store.Device) h = inr (sym fails ∙ h)
  check_fault (Store store.NoPage) h = λ honest new_honest.
      let (n, stops) = h (still new_honest) in
      (n, missing_page honest new_honest n stops, inr (head, has, inr (t, stands honest new_honest, stops)))
  check_fault f h = absurd h

-- ---- the answers of the last step, as those of the upgrade

module _ {E : Type 0} (fault : E → TreeFault) (facts : E → StoreFacts) (r : Result TreeView E) (t : TreeView) where
  pub made_of : (Q : TreeView → Type 0) → IfOk r (λ x. x ≡ t) → Q t → IfErr r (λ e. IsPassing (fault e)) → MatchResult r Q (λ e. IsUpgradePassing (fault e))
  made_of Q h k j = search rules

  pub begun_of : (H W : Type 0) (Q : TreeView → Type 0) → IfOk r (λ x. x ≡ t) → (H → OnOk r W) → ((H → W) → Q t) → IfOk r Q
  begun_of H W Q h k j = search rules

  pub refused_of : (R : TreeFault → Type 0) → IfErr r (λ e. IsCheckFault t (fault e)) → ((f : TreeFault) → IsCheckFault t f → R f) → IfErr r (λ e. R (fault e))
  refused_of R h k = search rules

  pub unopened_of : IfErr r (λ e. facts e ≡ read_store {A = E} (Err (fault e)) t.store) → IsUnopened t.store → IfErr r (λ e. IsUnopened (facts e))
  unopened_of left there = by_result r left
    where
      by_result : (r : Result TreeView E) → IfErr r (λ e. facts e ≡ read_store {A = E} (Err (fault e)) t.store) → IfErr r (λ e. IsUnopened (facts e))
      by_result (Ok x) left = tt
      by_result (Err e) left = subst IsUnopened (sym left) there

-- what is made of the pages of an old table
pub upgraded : (from new : StoreFacts) (head : OldHeader) (i : IndexView) (pager : PagerView) → HasOldHeader from head → (IsHonest from → IsHonest new → StandsOver from head (over head i pager))
    → (IsHonest new → IsSound (over head i pager)) → (IsHonest new → HasMark head.header.schema pager.store.pages) → pager.trace ≡ untouched → IsUpgraded from new (over head i pager)
upgraded from new head i pager has stands sound marked trace = record {
  head = head;
  header_is = has;
  schema_is = refl;
  unsigned = has.is.header.unsigned has.is.version.1;
  count_is = refl;
  rows_are = refl;
  next_is = refl;
  sound = sound;
  old_pages = λ honest new_honest. old_are from head (over head i pager) has (stands honest new_honest) honest (sound new_honest);
  stands = stands;
  marked = marked;
  changed = refl;
  working = refl;
  trace_is = trace;
}

-- the numbers of the header of an old table
pub header_small : (from : StoreFacts) (head : OldHeader) → HasOldHeader from head → (1 ≤ head.header.next) × (head.header.next ≤ 16777216) × (head.header.regions < 2 ^ 32)
header_small from head has = (has.is.header.numbers.some_next, has.is.header.numbers.last_next, has.is.header.regions)
