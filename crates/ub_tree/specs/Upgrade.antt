-- Upgrading a table of an older format into a new store: what is made, why it is refused, and what the two stores are then.
use Rattle.std.specs.Prelude.{◌≡◌, ◌≤◌, ◌<◌, ◌+◌, ◌⊎◌, ℕ, false, true, IsTrue, List, Result, IfErr, IfOk, MatchResult, Some, None, slice_get}
use Rattle.ub_tree.specs.Common.{AreBelow, directory_of, entries_in, HasMark, HasOldHeader, index_of, IsAskedFor, IsDirectory, IsHonest, IsIndexOn}
use Rattle.ub_tree.specs.Common.{IsNamed, IsOldHeaderFault, IsRefused, IsSound, last_address, Memory, OldHeader, Page, page_count, PageFault, Placed}
use Rattle.ub_tree.specs.Common.{raised, region_count, regions, regions_in, Rejected, Schema, Store, StoreFacts, TreeFault, TreeView, untouched}
use Rattle.ub_store.specs.declared.store.TheConstants.{MAX_PAGES}
use Rattle.ub_tree.specs.Checking.{IsFirstFault, StopsTree}
use Rattle.ub_tree.specs.Old.{AreOldPages}
use Rattle.ub_laying.specs.Levels.{index_pages}
use Rattle.ub_store.specs.declared.fault.StoreFault.TheVariants as store

-- a tree stands over the pages but the first of an old store with this header; in version 1 an index comes behind, with the directory's entries
pub record StandsOver (old : StoreFacts) (head : OldHeader) (t : TreeView) : Type 0 where
  pub honest : IsHonest t.store
  pub schema_is : t.schema ≡ head.header.schema
  pub count_is : region_count t ≡ head.header.regions
  pub rows_are : t.rows ≡ head.header.rows
  pub next_is : t.next ≡ head.header.next
  pub last_is : t.inner.index.last ≡ last_address t.schema.dims
  pub pages_are : (n : ℕ) → 1 ≤ n → n < page_count old → slice_get t.store.pages n ≡ slice_get old.pages n
  pub by_index : head.version ≡ 2 → (page_count t.store ≡ page_count old) × (t.inner.index ≡ index_of head.header)
  pub by_directory : head.version ≡ 1 → (page_count t.store ≡ page_count old + index_pages head.header.regions) × IsIndexOn t.inner.index t.store
      × (chain : List ℕ) × IsDirectory old.pages (directory_of head.header) chain (entries_in t.inner.index t.store)
      × AreBelow (page_count old) (entries_in t.inner.index t.store)

-- the tree that an upgrade makes, of the regions of the old table; it counts as changed, so that closing it writes and syncs it
pub record IsUpgraded (old new : StoreFacts) (t : TreeView) : Type 0 where
  pub head : OldHeader
  pub header_is : HasOldHeader old head
  pub schema_is : t.schema ≡ head.header.schema
  pub unsigned : t.schema.signed ≡ 0
  pub count_is : region_count t ≡ head.header.regions
  pub rows_are : t.rows ≡ head.header.rows
  pub next_is : t.next ≡ head.header.next
  pub sound : IsHonest new → IsSound t
  pub old_pages : IsHonest old → IsHonest new → AreOldPages head.version old.pages t.schema t.placed t.next
  pub stands : IsHonest old → IsHonest new → StandsOver old head t
  pub marked : IsHonest new → HasMark t.schema t.store.pages
  pub changed : t.is_changed ≡ true
  pub working : t.is_failed ≡ false
  pub trace_is : t.trace ≡ untouched

-- a sound tree of this schema, of these regions, each with the rows that it had, and with this next number
pub record HasTable (schema : Schema) (placed : List Placed) (next : ℕ) (t : TreeView) : Type 0 where
  pub sound : IsSound t
  pub schema_is : t.schema ≡ schema
  pub regions_are : regions t ≡ regions_in placed
  pub next_is : t.next ≡ next

-- why a closed table of an older format isn't upgraded: for want of memory, as a store failed, or as the new one would have too many pages
abbrev pub IsUpgradePassing : TreeFault → Type 0
IsUpgradePassing Memory = Unit {0}
IsUpgradePassing (Store store.Device) = Unit {0}
IsUpgradePassing (Store store.BadSize) = Unit {0}
IsUpgradePassing _ = ⊥

-- nothing stands in the store but the first page, or that marks a table as changed: it isn't opened
abbrev pub IsUnopened : StoreFacts → Type 0
IsUnopened new = (page_count new ≤ 1) ⊎ ((schema : Schema) × HasMark schema new.pages)

-- this page of the old store is refused: as the header, as a page of the directory, or first in a check of a tree that stands over the old pages
abbrev pub IsOldRefused : StoreFacts → ℕ → List ℕ → PageFault → Type 0
IsOldRefused old n page fault =
    ((n ≡ 0) × IsOldHeaderFault page fault)
    ⊎ ((head : OldHeader) × HasOldHeader old head
    × (((head.version ≡ 1) × IsRefused (directory_of head.header) old n page fault)
    ⊎ ((t : TreeView) × StandsOver old head t × IsFirstFault t (Page n fault))))

-- this page is asked for, which the old store hasn't: the first, one of the directory or that it names, or where a check of such a tree stops first
abbrev pub IsOldAskedFor : StoreFacts → ℕ → Type 0
IsOldAskedFor old n =
    (n ≡ 0)
    ⊎ ((head : OldHeader) × HasOldHeader old head
    × (((head.version ≡ 1) × (IsAskedFor (directory_of head.header) old n ⊎ IsNamed (directory_of head.header) old n))
    ⊎ ((t : TreeView) × StandsOver old head t × StopsTree t n None)))

-- why an upgrade is refused: with BadSize the new store can't have as many pages as are needed; NoPage and a page's fault are about a page of the old
-- store. Which page that is, is said only where both stores are honest
abbrev pub IsUpgradeFault : StoreFacts → StoreFacts → TreeFault → Type 0
IsUpgradeFault old new Memory = Unit {0}
IsUpgradeFault old new (Store store.Device) = IsTrue old.can_fail ⊎ IsTrue new.can_fail
IsUpgradeFault old new (Store store.NoPage) = IsHonest old → IsHonest new → (n : ℕ) × (page_count old ≤ n) × IsOldAskedFor old n
IsUpgradeFault old new (Store store.BadSize) =
    (head : OldHeader) × HasOldHeader old head × (head.version ≡ 1) × (MAX_PAGES < page_count old + index_pages head.header.regions)
IsUpgradeFault old new (Page n fault) =
    IsHonest old → IsHonest new → (page : List ℕ) × (slice_get old.pages n ≡ Some page) × IsOldRefused old n page fault
IsUpgradeFault old new _ = ⊥

-- the two stores, with these counts of failures: the old one is as it was otherwise; of the new one the pages, and those that last, may be others
pub record AreBothLeft (reads new_reads new_writes : ℕ) (old old_now new new_now : StoreFacts) : Type 0 where
  pub old_is : old_now ≡ record old { failed_reads = reads }
  pub new_is : new_now ≡ record new { pages = new_now.pages; synced = new_now.synced; failed_reads = new_reads; failed_writes = new_writes }

-- the two stores where no call of them failed
abbrev pub HasWorked : StoreFacts → StoreFacts → StoreFacts → StoreFacts → Type 0
HasWorked old old_now new new_now = AreBothLeft old.failed_reads new.failed_reads new.failed_writes old old_now new new_now

-- the two stores after an upgrade that was refused: with the device's fault just one call of one of them failed
abbrev pub IsLeftBy : TreeFault → StoreFacts → StoreFacts → StoreFacts → StoreFacts → Type 0
IsLeftBy (Store store.Device) old old_now new new_now =
    AreBothLeft (raised old.failed_reads 1) new.failed_reads new.failed_writes old old_now new new_now
    ⊎ AreBothLeft old.failed_reads (raised new.failed_reads 1) new.failed_writes old old_now new new_now
    ⊎ AreBothLeft old.failed_reads new.failed_reads (raised new.failed_writes 1) old old_now new new_now
IsLeftBy fault old old_now new new_now = HasWorked old old_now new new_now

-- a table of an older format was to be brought into a new store, and this was answered: its tree; or why not, with that store, which isn't opened
pub record Upgrades {S : Type 0} (facts : S → StoreFacts) (old old_now new : StoreFacts) (result : Result TreeView (Rejected S TreeFault)) : Type 0 where
  pub made : (version next : ℕ) (schema : Schema) (placed : List Placed) → IsHonest old → IsHonest new → AreOldPages version old.pages schema placed next
      → MatchResult result (HasTable schema placed next) (λ refused. IsUpgradePassing refused.fault)
  pub begun : IfOk result (IsUpgraded old new)
  pub unopened : IsHonest new → IfErr result (λ refused. IsUnopened (facts refused.store))
  pub refused : IfErr result (λ refused. IsUpgradeFault old new refused.fault)
  pub effect : MatchResult result (λ t. HasWorked old old_now new t.store) (λ refused. IsLeftBy refused.fault old old_now new (facts refused.store))
