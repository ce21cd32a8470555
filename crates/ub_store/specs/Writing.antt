-- What growing a store, and putting pages into it, leaves of it.
use Rattle.std.specs.Prelude.{◌≡◌, ◌≢◌, ◌≤◌, ◌<◌, ◌⊎◌, ℕ, List, IsTrue, length, slice_get, Result, IsErrOf}
use Rattle.std.specs.List.{AllByRecursion}
use Rattle.ub_store.specs.Facts.{StoreFacts, IsHonest, page_count, counted as store_counted}
use Rattle.ub_store.specs.declared.fault.StoreFault.{StoreFault}
use Rattle.ub_store.specs.declared.fault.StoreFault.TheVariants as store

-- a store after such a call of its own
abbrev pub put_store : {A : Type 0} → Result A StoreFault → StoreFacts → StoreFacts → StoreFacts
put_store result old new = record old { pages = new.pages; synced = new.synced; failed_writes = store_counted result old.failed_writes }

-- a call that only writes, extends and syncs a store
pub record WritesStore {A : Type 0} (old new : StoreFacts) (result : Result A StoreFault) : Type 0 where
  pub same : new ≡ put_store result old new
  pub device : IsErrOf result store.Device → IsTrue old.can_fail

-- the pages that there were are as they were, and others may stand after them; so it is of those that last, unless they are
-- the ones that lasted before
pub record Grows (old new : StoreFacts) : Type 0 where
  pub more : page_count old ≤ page_count new
  pub kept : IsHonest old → (m : ℕ) → m < page_count old → slice_get new.pages m ≡ slice_get old.pages m
  pub lasting : IsHonest old → (new.synced ≡ old.synced) ⊎ ((m : ℕ) → m < page_count old → slice_get new.synced m ≡ slice_get old.pages m)

-- this number is none of these
abbrev pub IsOther : ℕ → List ℕ → Type 0
IsOther n numbers = AllByRecursion (λ m. m ≢ n) numbers

-- so many pages as before, and but for these they are the same
pub record SameBut (numbers : List ℕ) (old new : List (List ℕ)) : Type 0 where
  pub count : length new ≡ length old
  pub others : (m : ℕ) → IsOther m numbers → slice_get new m ≡ slice_get old m

-- the pages are as they were, but for these; so it is of those that last, unless they are the ones that lasted before
pub record KeepsBut (numbers : List ℕ) (old new : StoreFacts) : Type 0 where
  pub count : page_count new ≡ page_count old
  pub others : IsHonest old → (m : ℕ) → IsOther m numbers → slice_get new.pages m ≡ slice_get old.pages m
  pub lasting : IsHonest old → (new.synced ≡ old.synced) ⊎ SameBut numbers old.pages new.synced

-- the first page that lasts is the one that lasted before, or that of the pages before
abbrev pub KeepsFirst : StoreFacts → StoreFacts → Type 0
KeepsFirst old new = (slice_get new.synced 0 ≡ slice_get old.synced 0) ⊎ (slice_get new.synced 0 ≡ slice_get old.pages 0)
