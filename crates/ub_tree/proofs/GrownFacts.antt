-- What becomes of a tree whose store gets pages more: it tells of the same regions, and a sound one stays sound.
use Rattle.std.proofs.Common.{rules, ◌≡◌, ◌<◌, ◌≤◌, ◌∙◌, ◌+◌, ◌^◌, ℕ, Bool, true, List, [], ◌∷◌, None, Result, Err, IfErr, length, map, sym, ap, subst, arith, slice_get}
use Rattle.ub_tree.proofs.Common.{AllByRecursion, ArePlaced, AreRegions, AreSoundPages, entries_under, Entry, entry_of, Grows, GrowsTo, HasIndex, HasMark}
use Rattle.ub_tree.proofs.Common.{index_of, IndexView, IsGrowFault, IsHonest, IsSound, kept_index, kept_pages, kept_under, Leaves, Memory, page_count}
use Rattle.ub_tree.proofs.Common.{PagerView, pages_under, PagesStay, Placed, placed_in, placed_of, put_store, recursion_from_All, regions_in, reserved, rows_of}
use Rattle.ub_tree.proofs.Common.{SameTrace, Schema, slice_get_within, Store, StoreFacts, StoreFault, TellsStill, top, tree_view, TreeView, ways_stay}
use Rattle.ub_tree.proofs.Common.{within_store}
use Rattle.ub_tree.proofs.PutFacts.{view_placed}
use Rattle.ub_tree.proofs.StoredFacts.{IsKept, IsSpelled, placed_kept}
use Rattle.ub_tree.proofs.WriteFacts.{wrote_tree}
use Rattle.ub_store.specs.declared.fault.StoreFault.TheVariants as store

-- the pages that there were are as they were
module _ (pages new : List (List ℕ)) (kept : (m : ℕ) → m < length pages → slice_get new m ≡ slice_get pages m) (more : length pages ≤ length new) where
  each_stays : (ns : List ℕ) → AllByRecursion (λ n. n < length pages) ns → PagesStay pages new ns
  each_stays [] less = tt
  each_stays (n ∷ ns) less = (kept n less.0, each_stays ns less.1)

  module _ (index : IndexView) (entries : List Entry) (indexed : HasIndex index pages entries) where
    stay : PagesStay pages new (pages_under pages index.levels (top index.root))
    stay = each_stays (pages_under pages index.levels (top index.root)) (within_store index.last pages index.levels (top index.root) None indexed.under_it)

    same_entries : entries_under index new ≡ entries_under index pages
    same_entries = kept_under pages new index.levels (top index.root) stay

    same_reserved : reserved index new ≡ reserved index pages
    same_reserved = ap (λ (ns : List ℕ). 0 ∷ ns) (kept_pages pages new index.levels (top index.root) stay)

    pub grown_index : HasIndex index new entries
    grown_index = search (rules, kept_index, same_entries, stay)

    pub grown_are : (schema : Schema) (placed : List Placed) → ArePlaced schema placed (reserved index pages) pages → ArePlaced schema placed (reserved index new) new
    grown_are schema placed h = search (rules, same_reserved, slice_get_within)

  kept_each : (schema : Schema) (ps : List Placed) → AllByRecursion (IsSpelled schema pages) ps → AllByRecursion (IsKept pages new) (map entry_of ps)
  kept_each schema [] h = tt
  kept_each schema (p ∷ ps) h = (kept p.page (slice_get_within pages p.page _ h.0), kept_each schema ps h.1)

  pub grown_placed : (schema : Schema) (index : IndexView) (placed : List Placed) → HasIndex index pages (map entry_of placed) → ArePlaced schema placed (reserved index pages) pages
      → placed_of schema new (entries_under index new) ≡ placed_of schema pages (entries_under index pages)
  grown_placed schema index placed indexed placed_are =
      ap (placed_of schema new) (same_entries index (map entry_of placed) indexed) ∙ placed_kept schema pages new (entries_under index pages)
      (subst (λ (es : List Entry). AllByRecursion (IsKept pages new) es) (sym indexed.entries_are) (kept_each schema placed (recursion_from_All (IsSpelled schema pages) placed placed_are.spelled)))

  pub grown_pages : (schema : Schema) (placed : List Placed) (next : ℕ) → AreSoundPages pages schema placed next → AreSoundPages new schema placed next
  grown_pages schema placed next h = record {
    header = h.header;
    spelled = kept 0 (slice_get_within pages 0 _ h.spelled) ∙ h.spelled;
    in_range = h.in_range;
    clean = h.clean;
    schema_is = h.schema_is;
    next_is = h.next_is;
    rows_are = h.rows_are;
    regions_are = h.regions_are;
    indexed = grown_index (index_of h.header) (map entry_of placed) h.indexed;
    well_formed = h.well_formed;
    placed_are = grown_are (index_of h.header) (map entry_of placed) h.indexed schema placed h.placed_are;
  }

  pub grown_mark : (schema : Schema) → HasMark schema pages → HasMark schema new
  grown_mark schema h = (h.0, h.1, kept 0 (slice_get_within pages 0 h.0 h.2) ∙ h.2)

module _ (schema : Schema) (index : IndexView) (count next rows : ℕ) (changed failed : Bool) (old new : PagerView) (honesty : new.store.honest ≡ old.store.honest) (grows : Grows old.store new.store) where
  abbrev before : TreeView
  before = tree_view schema index count next rows changed failed old

  abbrev after : TreeView
  after = tree_view schema index count next rows changed failed new

  grown_sound : IsSound before → (placed_in schema index new.store ≡ placed_in schema index old.store) × IsSound after
  grown_sound sound =
      let now : IsHonest new.store = honesty ∙ sound.honest in
      let pages = old.store.pages in
      let placed = placed_in schema index old.store in
      let kept = grows.kept sound.honest in
      let more = grows.more in
      let is : placed_in schema index new.store ≡ placed =
      view_placed schema index new.store now ∙ (grown_placed pages new.store.pages kept more schema index placed sound.indexed sound.placed_are ∙ sym (view_placed schema index old.store sound.honest)) in (
        is,
        record {
          working = sound.working;
          honest = now;
          last_is = sound.last_is;
          indexed = subst (λ (ps : List Placed). HasIndex index new.store.pages (map entry_of ps)) (sym is) (grown_index pages new.store.pages kept more index (map entry_of placed) sound.indexed);
          regions_are = subst (λ (ps : List Placed). AreRegions schema next (regions_in ps)) (sym is) sound.regions_are;
          placed_are = subst (λ (ps : List Placed). ArePlaced schema ps (reserved index new.store.pages) new.store.pages) (sym is)
              (grown_are pages new.store.pages kept more index (map entry_of placed) sound.indexed schema placed sound.placed_are);
          count_is = sound.count_is ∙ ap length (sym is);
          rows_are = sound.rows_are ∙ ap (λ (ps : List Placed). length (rows_of (regions_in ps))) (sym is);
          some_next = sound.some_next;
          last_next = sound.last_next;
          few = subst (λ (ps : List Placed). length ps < 2 ^ 32) (sym is) sound.few;
          closed = λ e. subst (λ (ps : List Placed). AreSoundPages new.store.pages schema ps next) (sym is) (grown_pages pages new.store.pages kept more schema placed next (sound.closed e));
          marked = λ e. grown_mark pages new.store.pages kept more schema (sound.marked e);
        },
      )

  grown_told : TellsStill before after
  grown_told = search (rules, ways_stay)

  -- a refusal leaves the tree as it was, but for pages more
  pub grown_leaves : new.store ≡ record old.store { pages = new.store.pages; synced = new.store.synced } → SameTrace old new → Leaves before after
  grown_leaves h k = search (rules, grown_sound, grown_told)

-- a call that was to give the store so many pages more, and was refused
module _ (schema : Schema) (index : IndexView) (count next rows : ℕ) (changed failed : Bool) (old new : PagerView) (by : ℕ) (r : Result (Unit {0}) StoreFault) (grows : Grows old.store new.store)
    (same : new.store ≡ put_store r old.store new.store) (trace : SameTrace old new) (refused : IfErr r (IsGrowFault by old.store)) where
  abbrev first : TreeView
  first = tree_view schema index count next rows changed failed old

  same_by : (fault : StoreFault) → r ≡ Err fault → new.store ≡ put_store {A = Unit {0}} (Err fault) old.store new.store
  same_by fault is = subst (λ (q : Result (Unit {0}) StoreFault). new.store ≡ put_store q old.store new.store) is same

  refused_by : (fault : StoreFault) → r ≡ Err fault → IsGrowFault by old.store fault
  refused_by fault is = subst (λ (q : Result (Unit {0}) StoreFault). IfErr q (IsGrowFault by old.store)) is refused

  honesty_by : (fault : StoreFault) → r ≡ Err fault → new.store.honest ≡ old.store.honest
  honesty_by fault is = ap (λ (s : StoreFacts). s.honest) (same_by fault is)

  pub grow_device : r ≡ Err store.Device → GrowsTo {A = Unit {0}} (page_count old.store + by) first (tree_view schema index count next rows changed true new) (Err (Store store.Device))
  grow_device h = grind arith

  pub grow_memory : r ≡ Err store.Memory → GrowsTo {A = Unit {0}} (page_count old.store + by) first (tree_view schema index count next rows changed failed new) (Err Memory)
  grow_memory h = search (rules, grown_leaves, honesty_by, same_by, wrote_tree)

  pub grow_size : r ≡ Err store.BadSize → GrowsTo {A = Unit {0}} (page_count old.store + by) first (tree_view schema index count next rows changed failed new) (Err (Store store.BadSize))
  grow_size h = search (rules, grown_leaves, honesty_by, refused_by, same_by, wrote_tree)
