-- Searches in the index of a tree, as calls of the tree.
use Rattle.std.proofs.Common.{arith, rules, ◌≡◌, ◌<◌, ◌^◌, ◌∙◌, inl, inr, ℕ, Bool, Option, Some, None, IfSome, Result, Ok, Err, if◌then◌else◌, ap, refl}
use Rattle.ub_tree.proofs.Common.{AreChecked, before_of, cases_Bool, common_steps, FallsTo, GoesDown, HoldsKey, index_fault, IndexFault, IndexView, IsBefore}
use Rattle.ub_tree.proofs.Common.{IsErrAnd, IsHonest, IsIndexRefused, IsReadFault, IsSearchFault, IsSound, IsWayFault, Key, known_pages, le_before, never_stops}
use Rattle.ub_tree.proofs.Common.{not_before_self, not_both_before, one_given, PageFault, PagerView, precedes, precedes_of, read_store, Region, Schema}
use Rattle.ub_tree.proofs.Common.{Searches, SearchesFor, Stops, store_after, StoreFacts, top, tree_view, TreeFault, TreeView, ways_hold}
use Rattle.ub_index.specs.declared.fault.IndexFault.TheVariants as index
use Rattle.ub_store.specs.declared.fault.StoreFault.TheVariants as store

-- the pages of an honest store are known
pub known_is : (facts : StoreFacts) → IsHonest facts → known_pages facts ≡ facts.pages
known_is facts honest = rw honest refl

-- a store that was read, by the fault of the index and by that of the tree
pub stores_alike : (T U : Type 0) (e : IndexFault) (s : StoreFacts) → store_after {A = U} (Err e) s ≡ read_store {A = T} (Err (index_fault e)) s
stores_alike T U e s = search rules

-- on a sound tree no way stops
pub no_stop : (t : TreeView) (key : Key) (n : ℕ) (fault : Option PageFault) → t.inner.index.last < 2 ^ 128 → IsSound t → ¬ (Stops t.inner.index t.store key n fault)
no_stop t key n fault small sound =
    never_stops t.inner.index.last small t.store.pages key t.inner.index.levels (top t.inner.index.root) None n fault sound.indexed.under_it

-- the later one of two keys
later_of : Key → Key → Key
later_of a b = if precedes a b then b else a

later_from : (a b : Key) → (¬ (IsBefore (later_of a b) a)) × (¬ (IsBefore (later_of a b) b))
unfolding later_of
later_from a b = elim (cases_Bool (precedes a b)) [
  | inl t ↦ rw t ((λ down. not_both_before a b (before_of a b t) down), not_before_self b)
  | inr f ↦ rw f (not_before_self a, λ down. let t = precedes_of a b down in cc)
]

later_before : (a b end : Key) → IsBefore a end → IsBefore b end → IsBefore (later_of a b) end
unfolding later_of
later_before a b end h k = search rules

later_within : (a b : Key) (end : Option Key) → IfSome end (IsBefore a) → IfSome end (IsBefore b) → IfSome end (IsBefore (later_of a b))
later_within a b None h k = tt
later_within a b (Some end) h k = later_before a b end h k

-- over an honest store two regions to which keys fall are one, where each begins before the other ends
pub overlaps : (t : TreeView) (one_key other_key : Key) (one other : Region) → FallsTo t one_key one → FallsTo t other_key other → ¬ (one ≡ other)
    → IfSome one.next (IsBefore one.first) → IfSome one.next (IsBefore other.first) → IfSome other.next (IsBefore one.first) → IfSome other.next (IsBefore other.first)
    → ¬ (IsHonest t.store)
overlaps t one_key other_key one other h k j l m o p = grind (arith, common_steps, later_from, later_of, later_within, one_given, ways_hold)

-- a span that holds a key isn't empty
pub not_empty : (key first : Key) (next : Option Key) → HoldsKey key first next → IfSome next (IsBefore first)
not_empty key first None h = tt
not_empty key first (Some end) h = le_before first key end h.from h.to

pub index_not_refused : (t : TreeView) (n : ℕ) (fault : PageFault) → t.inner.index.last < 2 ^ 128 → IsSound t → ¬ (IsIndexRefused t n fault)
index_not_refused t n fault small sound h = let stops = h sound.honest in no_stop t stops.0 n (Some fault) small sound stops.1

-- why a search is refused
pub search_fault : (t : TreeView) (Sought : Key → Type 0) → t.inner.index.last < 2 ^ 128 → (e : IndexFault)
    → IsWayFault t.inner.index t.store Sought e → IsReadFault t (index_fault e)
search_fault t Sought h e k = search (rules, index_not_refused, no_stop)

-- and by which keys
pub sought_fault : (t : TreeView) (Sought : Key → Type 0) → t.inner.index.last < 2 ^ 128 → (e : IndexFault)
    → IsWayFault t.inner.index t.store Sought e → IsSearchFault Sought t (index_fault e)
sought_fault t Sought small (index.Page n fault) h = ((λ sound. let way = h sound.honest in no_stop t way.0 n (Some fault) small sound way.2), h)
sought_fault t Sought small (index.Store store.Memory) h = tt
sought_fault t Sought small (index.Store store.Device) h = h
sought_fault t Sought small (index.Store store.NoPage) h = ((λ sound. let way = h.2 sound.honest in no_stop t way.0 h.0 None small sound way.2), h)
sought_fault t Sought small e h = absurd h

-- a search, as one of the tree
module _ (schema : Schema) (i : IndexView) (count next rows : ℕ) (changed failed : Bool) (old new : PagerView) (Sought : Key → Type 0) where
  abbrev before : TreeView
  before = tree_view schema i count next rows changed failed old

  abbrev after : TreeView
  after = tree_view schema i count next rows changed failed new

  pub search_refused : {T : Type 0} (U : Type 0) (r : Result T TreeFault) (e : IndexFault) → i.last < 2 ^ 128 → AreChecked i.last old → IsErrAnd r (λ x. x ≡ index_fault e)
      → GoesDown {A = U} Sought i old new (Err e) → Searches before after r
  search_refused U (Ok x) e small sure is h = absurd is
  search_refused {T} U (Err f) e small sure is h = rw is (record {
    same = ap (λ (p : PagerView). tree_view schema i count next rows changed failed p) h.same
        ∙ ap (λ (s : StoreFacts). record before { store = s }) (stores_alike T U e old.store);
    faults = search_fault before Sought small e (h.faults sure);
  })

  pub sought_refused : {T : Type 0} (U : Type 0) (r : Result T TreeFault) (e : IndexFault) → i.last < 2 ^ 128 → AreChecked i.last old → IsErrAnd r (λ x. x ≡ index_fault e)
      → GoesDown {A = U} Sought i old new (Err e) → SearchesFor Sought before after r
  sought_refused U (Ok x) e small sure is h = absurd is
  sought_refused {T} U (Err f) e small sure is h = rw is (record {
    same = ap (λ (p : PagerView). tree_view schema i count next rows changed failed p) h.same
        ∙ ap (λ (s : StoreFacts). record before { store = s }) (stores_alike T U e old.store);
    faults = sought_fault before Sought small e (h.faults sure);
  })
