-- What the index of a tree tells of its regions.
use Rattle.std.proofs.Common.{◌≡◌, ◌∙◌, ◌++◌, ℕ, suc, List, Option, Some, map, nat_eq, sym, ap, subst, refl, slice_get}
use Rattle.ub_tree.proofs.Common.{Contains, Corners, distinct_left, end_before, entries_in, Entry, entry_of, FallsTo, First, first_keys, GivesAfter, HasIndex}
use Rattle.ub_tree.proofs.Common.{HoldsAny, index_holding, IndexView, IsDistinct, IsHonest, IsIndexOn, IsLater, IsReachedOnce, IsRegionAt, IsRegionIn}
use Rattle.ub_tree.proofs.Common.{IsRegionOf, IsSound, Key, last_address, LeastFrom, led_to, Meets, Region, region_of, regions_of, reserved, slice_get_within}
use Rattle.ub_tree.proofs.Common.{spans_of, StoreFacts, TreeView, way_ends_at, ways_hold}
use Rattle.ub_index.proofs.FoundFacts.{meeting_given, region_there}
use Rattle.ub_tree.proofs.TreeFacts.{span_entry}
use Rattle.ub_tree.proofs.MeetFacts.{contained_at as contained, contains_at}

-- the index of a tree stands on its store
pub index_on : (index : IndexView) (store : StoreFacts) (entries : List Entry) → IsHonest store → HasIndex index store.pages entries → IsIndexOn index store
index_on index store entries honest h = record { honest = honest; some = h.some; under_it = h.under_it }

-- each of its pages is reached once
pub reached_once : (index : IndexView) (store : StoreFacts) (numbers : List ℕ) → IsDistinct nat_eq (reserved index store.pages ++ numbers) → IsReachedOnce index store
reached_once index store numbers own = distinct_left (reserved index store.pages) numbers own

-- what is given after a region is the first later one of the index that meets the boxes
pub first_given : (index : IndexView) (store : StoreFacts) → IsIndexOn index store → (boxes : List Corners) (after found : Option Region)
    → GivesAfter index store (λ from. LeastFrom (HoldsAny boxes) from.z) after found
    → First (λ r. IsLater after r × Meets boxes r) (regions_of index.last (entries_in index store)) found
first_given index store is boxes after found given = meeting_given index store is after (record { ref_ptr = (0, 0); now = boxes }) found given

module _ (t : TreeView) (sound : IsSound t) where
  pub sound_index : IsIndexOn t.inner.index t.store
  sound_index = index_on t.inner.index t.store (map entry_of t.placed) sound.honest sound.indexed

  pub spans_told : regions_of t.inner.index.last (entries_in t.inner.index t.store) ≡ spans_of t
  spans_told = ap (λ (last : ℕ). regions_of last (entries_in t.inner.index t.store)) sound.last_is ∙ ap (regions_of (last_address t.schema.dims)) sound.indexed.entries_are

  -- the region to which a key falls is that which holds it
  pub at_of_key : (key : Key) (span : Region) → FallsTo t key span → IsRegionIn t (index_holding key (first_keys (map entry_of t.placed))) span
  at_of_key key span falls =
      subst (λ (es : List Entry). IsRegionAt es (index_holding key (first_keys es)) span) sound.indexed.entries_are (way_ends_at t.inner.index t.store key span sound_index (falls.way sound.honest))

  -- and to each region its own first key falls, on a way on which each page fits
  pub first_falls : (i : ℕ) (span : Region) → IsRegionIn t i span → span.from ≡ span.first.z → span.to ≡ end_before t.inner.index.last span.next → FallsTo t span.first span
  first_falls i span at from to =
      let leads = led_to t.inner.index t.store i span sound_index (subst (λ (es : List Entry). IsRegionAt es i span) (sym sound.indexed.entries_are) at) in
      let holds = ways_hold t.inner.index t.store span.first span leads in
      record { holds = holds.1; from = from; to = to; way = λ honest. leads }

  pub told_contained : (span : Region) → IsRegionOf t span → Contains (spans_of t) span
  told_contained span told =
      let i = index_holding told.key (first_keys (map entry_of t.placed)) in
      let at = region_there t.inner.index.last (map entry_of t.placed) i span (at_of_key told.key span told.falls) told.falls.from told.falls.to in
      let here : slice_get (spans_of t) i ≡ Some span = ap (λ (last : ℕ). slice_get (regions_of last (map entry_of t.placed)) i) (sym sound.last_is) ∙ at in
      contains_at (spans_of t) i span here

  pub contained_told : (span : Region) → Contains (spans_of t) span → IsRegionOf t span
  contained_told span there =
      let i = there.0 in
      let at : slice_get (spans_of t) i ≡ Some span = contained (spans_of t) span there in
      let (e, entry_at, first, page, next) = span_entry (last_address t.schema.dims) (map entry_of t.placed) i span at in
      let told : Region = region_of t.inner.index.last e (slice_get (first_keys (map entry_of t.placed)) (suc i)) in
      let placed : IsRegionIn t i told = there_at (map entry_of t.placed) i e entry_at in
      let own = region_there t.inner.index.last (map entry_of t.placed) i told placed refl refl in
      let whole : slice_get (regions_of t.inner.index.last (map entry_of t.placed)) i ≡ Some span = ap (λ (last : ℕ). slice_get (regions_of last (map entry_of t.placed)) i) sound.last_is ∙ at in
      let same : told ≡ span = (let both = sym own ∙ whole in cc) in
      subst (λ (s : Region). IsRegionOf t s) same (record { key = told.first; falls = first_falls i told placed refl refl })
    where
      there_at : (entries : List Entry) (i : ℕ) (e : Entry) → slice_get entries i ≡ Some e
          → IsRegionAt entries i (region_of t.inner.index.last e (slice_get (first_keys entries) (suc i)))
      there_at entries i e at = record { within = slice_get_within entries i e at; entry = at; next = refl }
