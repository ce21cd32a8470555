-- How a change is made: the store gets the pages that it needs, and those that it spells are put.
use Rattle.std.specs.Prelude.{◌≡◌, ◌<◌, ◌≤◌, ◌⊎◌, ℕ, IsTrue, List, Some, length, slice_get}
use Rattle.ub_index_change.specs.Changed.{Replaces}
use Rattle.ub_index.specs.Standing.{IsOutside}
use Rattle.ub_index_change.specs.Changing.{IsUnspelled}
use Rattle.ub_index_change.specs.Preparing.{ChangeView, IsForeign}
use Rattle.ub_index.specs.View.{IsReachedOnce, pages_of_index, IndexView, IsIndexOn, entries_in}
use Rattle.ub_index_change.specs.declared.sheet.Sheet.{Sheet}
use Rattle.ub_region.specs.declared.entry.Entry.{Entry}
use Rattle.ub_store.specs.Facts.{StoreFacts, IsHonest, page_count}
use Rattle.ub_store.specs.declared.fault.StoreFault.{StoreFault}
use Rattle.ub_store.specs.declared.fault.StoreFault.TheVariants as store

-- so many pages as before, and but for those that are spelled they are the same
pub record SameButSheets (sheets : List Sheet) (old new : List (List ℕ)) : Type 0 where
  pub count : length new ≡ length old
  pub others : (m : ℕ) → IsUnspelled m sheets → slice_get new m ≡ slice_get old m

-- the pages are as they were, but for those that are spelled; so it is of those that last, unless they are the ones that lasted
-- before
pub record PutsSheets (sheets : List Sheet) (old new : StoreFacts) : Type 0 where
  pub count : page_count new ≡ page_count old
  pub others : IsHonest old → (m : ℕ) → IsUnspelled m sheets → slice_get new.pages m ≡ slice_get old.pages m
  pub lasting : IsHonest old → (new.synced ≡ old.synced) ⊎ SameButSheets sheets old.pages new.synced

-- why a page that is spelled isn't put, where the store is to have so many pages: it failed, which it then can; or it has fewer, and none
-- of that number
abbrev pub IsPutFault : ℕ → List Sheet → StoreFacts → StoreFault → Type 0
IsPutFault count sheets old store.Device = IsTrue old.can_fail
IsPutFault count sheets old store.NoPage =
    (page_count old < count) × (k : ℕ) × (sheet : Sheet) × (slice_get sheets k ≡ Some sheet) × (page_count old ≤ sheet.number)
IsPutFault count sheets old _ = ⊥

-- the pages are as they were, but for those of these numbers
abbrev pub StayOutside : List ℕ → List (List ℕ) → List (List ℕ) → Type 0
StayOutside numbers old new = (m : ℕ) → IsOutside m numbers → slice_get new m ≡ slice_get old m

-- an index with the root that a change tells
abbrev pub changed : IndexView → ChangeView → IndexView
changed index change = record index { root = change.root; levels = change.levels }

-- a change of an index is made: on the store stands the index that it tells, each page of which is reached once; in its list of
-- regions fs stand where f stood; and each page that isn't one of the old index, nor one that the change brings, is none of the
-- new index, and is as it was before the change was put
pub record IsCommitted (index : IndexView) (old : StoreFacts) (from : ℕ) (change : ChangeView) (f : Entry) (fs : List Entry) (filled new : StoreFacts) : Type 0 where
  pub is : IsIndexOn (changed index change) new
  pub reached : IsReachedOnce (changed index change) new
  pub entries_are : Replaces f fs (entries_in index old) (entries_in (changed index change) new)
  pub no_other : (n : ℕ) → IsForeign index old from change n → IsOutside n (pages_of_index (changed index change) new)
  pub kept : (n : ℕ) → IsForeign index old from change n → slice_get new.pages n ≡ slice_get filled.pages n
