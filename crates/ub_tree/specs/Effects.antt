-- What the calls of a tree leave, in a few words: a call that searches, one that reads regions, one that changes the tree.
use Rattle.std.specs.Prelude.{◌+◌, ◌≡◌, ◌<◌, ◌≤◌, ◌⊎◌, ℕ, true, IsTrue, Result, Ok, Err, IfErr, OnOk, List, Some, None}
use Rattle.ub_tree.specs.Common.{BadCount, BadOrder, Failed, Full, Grows, HasFullWay, HasMark, IsDropFault, IsFree, IsHonest, IsPage, IsSound}
use Rattle.ub_tree.specs.Common.{KeepsTrace, KeepsUnless, Key, MAX_LEVEL, MAX_ROW_NUMBER, Memory, NeedsPages, Notes, Page, page_count, PageFault}
use Rattle.ub_tree.specs.Common.{raised, Region, region_count, RegionRows, regions, Row, Stops, Store, StoreFacts, TreeFault, TreeView}
use Rattle.std.specs.List.{Contains}
use Rattle.ub_check.specs.Standing.{IsRegionRefused}
use Rattle.ub_tree.specs.Others.{WritesOneRegion}
use Rattle.ub_tree.specs.Told.{IsRegionOf, TellsStill}
use Rattle.ub_check.specs.Standing as check
use Rattle.ub_index.specs.declared.fault.IndexFault.TheVariants as index
use Rattle.ub_store.specs.View as trace
use Rattle.ub_store.specs.declared.fault.StoreFault.TheVariants as store

-- a count of failures after a call with this fault, and after one with this result: Device raises it by one
abbrev pub raised_by : TreeFault → ℕ → ℕ
raised_by (Store store.Device) n = raised n 1
raised_by _ n = n

abbrev pub counted : {A : Type 0} → Result A TreeFault → ℕ → ℕ
counted (Ok _) n = n
counted (Err fault) n = raised_by fault n

-- a store after a call with this result that only reads
abbrev pub read_store : {A : Type 0} → Result A TreeFault → StoreFacts → StoreFacts
read_store result old = record old { failed_reads = counted result old.failed_reads }

-- a store after a call with this result that only writes, extends and syncs, with the pages that it then has
abbrev pub written_store : {A : Type 0} → Result A TreeFault → StoreFacts → StoreFacts → StoreFacts
written_store result old new = record old { pages = new.pages; synced = new.synced; failed_writes = counted result old.failed_writes }

-- a way to one of these keys stops at the page of this number, which is refused, or at one that the store hasn't; over a sound tree none does
abbrev pub IsWayRefused : (Key → Type 0) → TreeView → ℕ → PageFault → Type 0
IsWayRefused Sought t number fault = IsHonest t.store → (key : Key) × Sought key × Stops t.inner.index t.store key number (Some fault)

abbrev pub IsWayMissing : (Key → Type 0) → TreeView → Type 0
IsWayMissing Sought t = (n : ℕ) × (page_count t.store ≤ n) × (IsHonest t.store → (key : Key) × Sought key × Stops t.inner.index t.store key n None)

-- what a search can answer that goes down to these keys alone: that a page on its way is refused, or isn't there, only where the tree isn't sound
abbrev pub IsSearchFault : (Key → Type 0) → TreeView → TreeFault → Type 0
IsSearchFault Sought old Full = ⊥
IsSearchFault Sought old Failed = IsTrue old.is_failed
IsSearchFault Sought old Memory = Unit {0}
IsSearchFault Sought old (Page page fault) = (¬ (IsSound old)) × IsWayRefused Sought old page fault
IsSearchFault Sought old (Store store.Device) = IsTrue old.store.can_fail
IsSearchFault Sought old (Store store.NoPage) = (¬ (IsSound old)) × IsWayMissing Sought old
IsSearchFault Sought old (Store _) = ⊥

-- a search that goes down to these keys alone: with the device's fault the store has one failed read more, and else nothing has changed
pub record SearchesFor {A : Type 0} (Sought : Key → Type 0) (old new : TreeView) (result : Result A TreeFault) : Type 0 where
  pub same : new ≡ record old { store = read_store result old.store }
  pub faults : IfErr result (IsSearchFault Sought old)

-- a way to some key stops at the page of this number, which is refused; over a sound tree none does
abbrev pub IsIndexRefused : TreeView → ℕ → PageFault → Type 0
IsIndexRefused t number fault = IsHonest t.store → (key : Key) × Stops t.inner.index t.store key number (Some fault)

-- the page of this number is refused, on which the tree tells of a region, or on the way to one
abbrev pub IsPageRefused : TreeView → ℕ → PageFault → Type 0
IsPageRefused t number fault =
    IsIndexRefused t number fault
    ⊎ ((span : Region) × IsRegionOf t span × (span.page ≡ number) × (page : List ℕ) × IsPage t.store number page
    × IsRegionRefused t.schema span.first span.next page fault)

-- a way to some key stops at a page that the store doesn't have
abbrev pub IsStopped : TreeView → Type 0
IsStopped t = (n : ℕ) × (page_count t.store ≤ n) × (IsHonest t.store → (key : Key) × Stops t.inner.index t.store key n None)

-- it does, or the tree tells of a region on such a page
abbrev pub IsPageMissing : TreeView → Type 0
IsPageMissing t = IsStopped t ⊎ ((span : Region) × IsRegionOf t span × (page_count t.store ≤ span.page))

-- what a call can answer that only reads: that a page is refused, or isn't there, only where the tree isn't sound
abbrev pub IsReadFault : TreeView → TreeFault → Type 0
IsReadFault old Full = ⊥
IsReadFault old Failed = IsTrue old.is_failed
IsReadFault old Memory = Unit {0}
IsReadFault old (Page page fault) = (¬ (IsSound old)) × IsPageRefused old page fault
IsReadFault old (Store store.Device) = IsTrue old.store.can_fail
IsReadFault old (Store store.NoPage) = (¬ (IsSound old)) × IsPageMissing old
IsReadFault old (Store _) = ⊥

-- a call within that only searches, or reads a region: with the device's fault the store has one failed read more, and else nothing has changed
pub record Searches {A : Type 0} (old new : TreeView) (result : Result A TreeFault) : Type 0 where
  pub same : new ≡ record old { store = read_store result old.store }
  pub faults : IfErr result (IsReadFault old)

-- a page was asked for: it stands in the trace, after the others
abbrev pub HasNoted : ℕ → TreeView → TreeView → Type 0
HasNoted page old new = Notes page old.trace new.trace

-- what the reading of a region answers, also of one that isn't the tree's: then by what that one says
abbrev pub IsSpanFault : Region → TreeView → TreeFault → Type 0
IsSpanFault span old Failed = IsTrue old.is_failed
IsSpanFault span old Memory = Unit {0}
IsSpanFault span old (Page number fault) =
    (number ≡ span.page) × (page : List ℕ) × IsPage old.store number page
    × IsRegionRefused old.schema span.first span.next page fault
IsSpanFault span old (Store store.Device) = IsTrue old.store.can_fail
IsSpanFault span old (Store store.NoPage) = page_count old.store ≤ span.page
IsSpanFault span old _ = ⊥

-- the region that is taken in is the one that this one's page spells; it begins as this one does, and stands before the next one
abbrev pub IsTakenIn : TreeView → Region → RegionRows → Type 0
IsTakenIn t span region = check.IsTakenIn t.schema t.store span region

-- a call that reads the region that its caller names, whose page is noted first: want of memory comes before that only where the trace has no room
pub record ReadsRegion {A : Type 0} (span : Region) (old new : TreeView) (result : Result A TreeFault) : Type 0 where
  pub same : new ≡ record old { store = read_store result old.store; trace = new.trace }
  pub noted : (KeepsTrace old new × ((result ≡ Err Failed) ⊎ ((result ≡ Err Memory) × trace.IsFull old.trace))) ⊎ HasNoted span.page old new
  pub listed : OnOk result (HasNoted span.page old new)
  pub failed : result ≡ Err Failed → new ≡ old
  pub faults : IsRegionOf old span → IfErr result (IsReadFault old)
  pub refused : IfErr result (IsSpanFault span old)

-- over an honest store the first page marks the table where it is changed now, if it did where it was changed before, as it does in a sound tree
abbrev pub KeepsMark : TreeView → TreeView → Type 0
KeepsMark old new = IsHonest old.store → (old.is_changed ≡ true → HasMark old.schema old.store.pages) → new.is_changed ≡ true → HasMark old.schema new.store.pages

-- until a table is marked as changed no page but the first is written, and from then on the first page marks it
pub record IsMarkedFirst (old new : TreeView) : Type 0 where
  pub kept : KeepsUnless new.is_changed old.store new.store
  pub marked : KeepsMark old new

-- the store has no room for the pages of another region: one for itself, and those that the index needs where it comes behind that of some key
abbrev pub IsFull : TreeView → Type 0
IsFull t =
    (t.inner.index.levels ≤ MAX_LEVEL)
    × (4294967295 < page_count t.store + 1 + (t.inner.index.levels + 1))
    × (IsHonest t.store → (4294967295 < page_count t.store + 1)
    ⊎ ((key : Key) × (n : ℕ) × NeedsPages t.inner.index t.store key n × (4294967295 < page_count t.store + 1 + n)))

-- the index has as many levels as one can have, and each page on the way to some key is full
abbrev pub IsIndexFull : TreeView → Type 0
IsIndexFull t = (t.inner.index.levels ≡ MAX_LEVEL) × (IsHonest t.store → (key : Key) × HasFullWay t.inner.index t.store key)

-- the store can have new pages, which hold nothing of the tree; all else is as it was. What lasts is what lasted before, or the pages that there were
pub record Leaves (old new : TreeView) : Type 0 where
  pub same : new ≡ record old { placed = new.placed; store = record old.store { pages = new.store.pages; synced = new.store.synced } }
  pub told : TellsStill old new
  pub grows : Grows old.store new.store
  pub sound : IsSound old → (new.placed ≡ old.placed) × IsSound new

-- a write or an extension met this fault: the tree has failed, with the root and the counts that it had
pub record HasEnded (fault : TreeFault) (old new : TreeView) : Type 0 where
  pub same : new ≡ record old { placed = new.placed; is_changed = new.is_changed; is_failed = true; store = written_store {A = TreeFault} (Err fault) old.store new.store }
  pub others : WritesOneRegion old new

-- a read failed: nothing but the count of failed reads has changed
abbrev pub HasMissed : TreeView → TreeView → Type 0
HasMissed old new = new ≡ record old { store = record old.store { failed_reads = raised old.store.failed_reads 1 } }

-- the region that the tree tells of on this page has a row already of this number, or of the one that the next row gets
abbrev pub HasNumber : TreeView → ℕ → ℕ → Type 0
HasNumber t page number =
    (span : Region) × IsRegionOf t span × (span.page ≡ page)
    × (region : RegionRows) × IsTakenIn t span region × (row : Row) × Contains region.rows row × (row.number ≡ number)

abbrev pub IsNumberTaken : TreeView → ℕ → Type 0
IsNumberTaken t page = HasNumber t page t.next

-- an index that some key's region can't leave: the page of this number is refused then, or no region would be left
abbrev pub IsDropRefused : TreeView → ℕ → PageFault → Type 0
IsDropRefused t number fault = (key : Key) × IsDropFault t.inner.index t.store key (index.Page number fault)

-- an index that some key's region can't leave, since the store has no page to which a root would give way
abbrev pub IsDropMissing : TreeView → Type 0
IsDropMissing t = (key : Key) × IsDropFault t.inner.index t.store key (index.Store store.NoPage)

-- a change needs a page that the store doesn't have: one that it reads
abbrev pub IsChangeMissing : TreeView → Type 0
IsChangeMissing t = IsPageMissing t ⊎ IsDropMissing t

-- which page a change refuses: one that it reads; the first, as a count would leave its bounds; or that of the region that has the new row's key
abbrev pub IsChangeRefused : TreeView → ℕ → PageFault → Type 0
IsChangeRefused t number fault =
    IsPageRefused t number fault ⊎ IsDropRefused t number fault
    ⊎ ((number ≡ 0) × (fault ≡ BadCount) × ((t.rows ≡ 0) ⊎ ((region_count t ≡ 4294967295) ⊎ (region_count t ≡ 1))))
    ⊎ ((fault ≡ BadOrder) × IsNumberTaken t number)

-- what a call can answer that changes the tree, and what it leaves then
abbrev pub IsLeft : TreeView → TreeView → TreeFault → Type 0
IsLeft old new Full = ((old.next ≡ MAX_ROW_NUMBER + 1) ⊎ IsIndexFull old) × (new ≡ old)
IsLeft old new Failed = IsTrue old.is_failed × (new ≡ old)
IsLeft old new Memory = Leaves old new
IsLeft old new (Page page fault) = (¬ (IsSound old)) × IsChangeRefused old page fault × (new ≡ old)
IsLeft old new (Store store.Device) = IsTrue old.store.can_fail × (HasMissed old new ⊎ HasEnded (Store store.Device) old new)
IsLeft old new (Store store.NoPage) = (¬ (IsSound old)) × IsChangeMissing old × (new ≡ old)
IsLeft old new (Store store.BadSize) = IsFull old × Leaves old new
IsLeft old new (Store store.Memory) = ⊥

-- the tree works, and no call of the store has failed
abbrev pub Works : TreeView → TreeView → Type 0
Works old new = (new.is_failed ≡ old.is_failed) × (new.store ≡ record old.store { pages = new.store.pages; synced = new.store.synced })

-- a call that changes the tree: what it never touches, that it marks the table first, and what it leaves
pub record Changes {A : Type 0} (old new : TreeView) (result : Result A TreeFault) : Type 0 where
  pub frame : new ≡ record old { placed = new.placed; rows = new.rows; next = new.next; is_changed = new.is_changed; is_failed = new.is_failed; store = new.store; inner = new.inner }
  pub marked : IsMarkedFirst old new
  pub done : OnOk result (Works old new)
  pub left : IfErr result (IsLeft old new)

-- what a call leaves that puts in a row of this number: as each change, but a page is refused only if the tree isn't sound or one of its rows has it
abbrev pub IsLeftOf : ℕ → TreeView → TreeView → TreeFault → Type 0
IsLeftOf n old new (Page page fault) =
    (IsSound old → ¬ (IsFree n (regions old))) × (IsChangeRefused old page fault ⊎ ((fault ≡ BadOrder) × HasNumber old page n)) × (new ≡ old)
IsLeftOf n old new fault = IsLeft old new fault

pub record ChangesOf (n : ℕ) {A : Type 0} (old new : TreeView) (result : Result A TreeFault) : Type 0 where
  pub frame : new ≡ record old { placed = new.placed; rows = new.rows; next = new.next; is_changed = new.is_changed; is_failed = new.is_failed; store = new.store; inner = new.inner }
  pub marked : IsMarkedFirst old new
  pub done : OnOk result (Works old new)
  pub left : IfErr result (IsLeftOf n old new)
