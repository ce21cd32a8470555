-- What the steps of a change of one region do to a tree, and what they need.
use Rattle.std.specs.Prelude.{IfSome, ◌≡◌, ◌≢◌, ◌+◌, ◌<◌, ◌≤◌, ◌^◌, ◌++◌, ◌⊎◌, ℕ, suc, true, false, List, [], ◌∷◌, Option, IsTrue, Result, Err, IfErr, MatchResult, OnOk, Some, length, map, take, drop, slice_get}
use Rattle.ub_tree.specs.Common.{added_at, AllByRecursion, ArePlaced, ChangeView, entries_in, entry_at, entry_of, first_keys, Full, Grows, Halves}
use Rattle.ub_tree.specs.Common.{HasIndex, index_holding, IsBefore, IsDropped, IsHonest, IsIndexPage, IsOnlyGrown, IsOutside, IsPrepared, IsRegion}
use Rattle.ub_tree.specs.Common.{IsRegionAt, IsSound, IsWithinRegion, KeepsUnless, Key, keys_of, MakesIndex, Memory, origin, Page, page_count, Placed}
use Rattle.ub_tree.specs.Common.{Region, region_count, RegionRows, regions, RegionView, reserved, Row, Schema, split, split_region, Store, StoreFacts}
use Rattle.ub_tree.specs.Common.{TakesNeeded, TreeFault, TreeView}
use Rattle.ub_index_change.specs.Changed.{Replaces}
use Rattle.ub_index_change.specs.Changing.{AreIndexPages, AreOnce, Stand, so_far}
use Rattle.ub_index_change.specs.Filling.{KeepsFilled}
use Rattle.ub_index_change.specs.Making.{IsPutFault, PutsSheets, changed}
use Rattle.ub_index_change.specs.declared.sheet.Sheet.{Sheet}
use Rattle.ub_tree.specs.Effects.{Changes, HasEnded, IsChangeMissing, IsChangeRefused, IsFull, IsIndexFull, IsReadFault, IsTakenIn, KeepsMark, Leaves}
use Rattle.ub_tree.specs.Effects.{Searches, read_store, written_store, IsMarkedFirst}
use Rattle.ub_tree.specs.Holding.{AnswersAt}
use Rattle.ub_tree.specs.Opened.{IsPassing}
use Rattle.ub_tree.specs.Others.{AddsEntry, KeepsEntries, KeepsOthers, WritesIndex, WritesPage}
use Rattle.ub_tree.specs.Pages.{Spells, SpellsHalves}
use Rattle.ub_tree.specs.Told.{FallsTo, IsRegionOf, KeepsTold}
use Rattle.ub_store.specs.declared.fault.StoreFault.TheVariants as store

-- a tree works, over an honest store on whose pages its index stands, and each of its regions on a page of its own that spells it
pub record IsStored (t : TreeView) : Type 0 where
  pub working : t.is_failed ≡ false
  pub honest : IsHonest t.store
  pub indexed : HasIndex t.inner.index t.store.pages (map entry_of t.placed)
  pub placed_are : ArePlaced t.schema t.placed (reserved t.inner.index t.store.pages) t.store.pages
  pub count_is : region_count t ≡ length t.placed

-- the tree is as it was but for its pages, and is marked as changed
abbrev pub IsPut : TreeView → TreeView → Type 0
IsPut old new = new ≡ record old { placed = new.placed; store = new.store; is_changed = true }

-- the same but for where its index stands, and how many regions it counts
abbrev pub IsElsewhereSame : TreeView → TreeView → Type 0
IsElsewhereSame old new = new ≡ record old { placed = new.placed; store = new.store; is_changed = true; inner = new.inner }

-- the same, and a region, which had so many rows, was written anew; it was split where its page was full
pub record StoresAt (span : Region) (count : ℕ) (old new : TreeView) : Type 0 where
  pub same : IsElsewhereSame old new
  pub others : (WritesPage span.page old new × KeepsEntries old new) ⊎ (WritesIndex span.page old new × AddsEntry span.first old new)
  pub full : count ≡ old.schema.page_rows → AddsEntry span.first old new
  pub spare : count < old.schema.page_rows → KeepsEntries old new

-- these rows stand on the page of a region, which had so many; or where that was full their halves do, the second on the first one the store hadn't
pub record StandAt (span : Region) (count : ℕ) (rows : List Row) (old new : TreeView) : Type 0 where
  pub alone : count < old.schema.page_rows → Spells new span.page span.first rows
  pub halved : count ≡ old.schema.page_rows → SpellsHalves new span.page (page_count old.store) span.first (split old.schema.dims old.schema.page_rows rows)

-- in place of the region at an index stand these
abbrev pub placed_with : ℕ → List Placed → List Placed → List Placed
placed_with index news placed = take index placed ++ news ++ drop (suc index) placed

-- a write or an extension met this fault: the tree has failed, with the root and the counts that it had
pub record HasStopped (fault : TreeFault) (old new : TreeView) : Type 0 where
  pub same : new ≡ record old { placed = new.placed; is_changed = new.is_changed; is_failed = true; store = written_store {A = TreeFault} (Err fault) old.store new.store }

-- what a call within that only writes can answer, and what it leaves then
abbrev pub IsWriteFault : TreeView → TreeView → TreeFault → Type 0
IsWriteFault old new (Store store.Device) = IsTrue old.store.can_fail × HasStopped (Store store.Device) old new
IsWriteFault old new _ = ⊥

-- a call within that only writes, and of the pages but the first only that of a region
pub record Writes {A : Type 0} (span : Region) (old new : TreeView) (result : Result A TreeFault) : Type 0 where
  pub frame : new ≡ record old { placed = new.placed; is_changed = new.is_changed; is_failed = new.is_failed; store = written_store result old.store new.store }
  pub marked : IsMarkedFirst old new
  pub done : OnOk result (new.is_failed ≡ old.is_failed)
  pub faults : IfErr result (IsWriteFault old new)
  pub kept : WritesPage span.page old new
  pub count : page_count new.store ≡ page_count old.store

-- the region of this index, whatever its span is
abbrev pub IsRegionIn : TreeView → ℕ → Region → Type 0
IsRegionIn t i span = IsRegionAt (map entry_of t.placed) i span

-- a call within that puts a region, with the rows of this page, in place of one that the tree tells of
pub record Rewrites {A : Type 0} (span : Region) (rows : List Row) (old new : TreeView) (result : Result A TreeFault) : Type 0 where
  pub same : OnOk result (IsPut old new)
  pub written : (i : ℕ) → IsStored old → IsRegionIn old i span
      → OnOk result (IsStored new × (new.placed ≡ placed_with i (record { page = span.page; region = record { first = span.first; rows = rows } } ∷ []) old.placed))
  pub told : OnOk result (KeepsTold old new)
  pub put : OnOk result (IsHonest old.store → Spells new span.page span.first rows)
  pub faults : IfErr result (λ fault. fault ≡ Store store.Device)
  pub stays : old.is_changed ≡ true → new.is_changed ≡ true
  pub effect : Writes span old new result

-- a region that the tree tells of, which stands there in its place
pub record IsRegionThere (t : TreeView) (span : Region) : Type 0 where
  pub told : IsRegionOf t span
  pub there : span.page < page_count t.store
  pub region : RegionRows
  pub on : IsTakenIn t span region

-- a region was read
pub record IsReadAt (t : TreeView) (span : Region) (page : RegionView) : Type 0 where
  pub dims : page.dims ≡ t.schema.dims
  pub on : IsTakenIn t span page.region

-- a call within that reads a region into this page
pub record ReadsAt {A : Type 0} (span : Region) (page : RegionView) (old new : TreeView) (result : Result A TreeFault) : Type 0 where
  pub read : OnOk result (IsReadAt old span page)
  pub there : OnOk result (span.page < page_count old.store)
  pub rows : (i : ℕ) (p : Placed) → IsHonest old.store → IsRegionIn old i span → slice_get old.placed i ≡ Some p → OnOk result (page.region.rows ≡ p.region.rows)
  pub taken : IsHonest old.store → (r : RegionRows) → IsTakenIn old span r → MatchResult result (λ _. page.region ≡ r) IsPassing
  pub effect : Searches old new result

-- the region that holds a key was read: of stored pages it is the one that the key falls to, and over an honest store the one that the page spells
pub record HasReadAt (t : TreeView) (key : Key) (span : Region) (page : RegionView) : Type 0 where
  pub falls : FallsTo t key span
  pub there : span.page < page_count t.store
  pub read : IsReadAt t span page
  pub region : IsStored t → IsRegionIn t (index_holding key (first_keys (map entry_of t.placed))) span
  pub rows : (i : ℕ) (p : Placed) → IsHonest t.store → IsRegionIn t i span → slice_get t.placed i ≡ Some p → page.region.rows ≡ p.region.rows
  pub taken : IsHonest t.store → (r : RegionRows) → IsTakenIn t span r → page.region ≡ r

-- the rows are those of a region which begins with this key, and they stand before the next one
abbrev pub AreRowsFrom : Schema → Key → Option Key → List Row → Type 0
AreRowsFrom schema first next rows =
    IsRegion schema (record { first = first; rows = rows })
    × IfSome next (λ end. AllByRecursion (λ key. IsBefore key end) (keys_of schema.dims rows))

-- a region in memory has rows that can stand in one that the tree tells of, in the same space and from the same key on
pub record IsMadeOf (schema : Schema) (span : Region) (page : RegionView) : Type 0 where
  pub dims : page.dims ≡ schema.dims
  pub first : page.region.first ≡ span.first
  pub rows : AreRowsFrom schema span.first span.next page.region.rows

-- each page that is spelled is one of the index or one that the change brings, and not the first; what stood there was a page of an index
pub record IsSpelledAt (t : TreeView) (from : ℕ) (change : ChangeView) (sheet : Sheet) : Type 0 where
  pub own : (n : ℕ) → n < page_count t.store → IsOutside n (reserved t.inner.index t.store.pages) → ¬ (n ≡ sheet.number)
  pub some : 1 ≤ sheet.number
  pub there : (sheet.number < page_count t.store) ⊎ ((from ≤ sheet.number) × (sheet.number < change.next))
  pub kind : (page : List ℕ) → slice_get t.store.pages sheet.number ≡ Some page → IsIndexPage t.inner.index.last page

-- what is prepared for a region that comes behind another one, with this first key
pub record IsAddReady (t : TreeView) (span : Region) (first : Key) (change : ChangeView) : Type 0 where
  pub root : 1 ≤ t.inner.index.root
  pub start : change.start ≡ page_count t.store
  pub some : page_count t.store + 1 ≤ change.next
  pub few : change.next ≤ page_count t.store + 1 + (t.inner.index.levels + 1)
  pub needed : IsHonest t.store → TakesNeeded t.inner.index t.store span.first change
  pub made : IsHonest t.store → IsPrepared t.inner.index t.store span.first (Some (added_at first t.store)) (page_count t.store) (so_far [] (page_count t.store + 1)) change
  pub spelled : IsHonest t.store → AllByRecursion (IsSpelledAt t (page_count t.store + 1) change) change.sheets
  pub pages : IsHonest t.store → FallsTo t span.first span → IsWithinRegion t.inner.index.last span.first span.next first
      → AreIndexPages t.inner.index.last change.sheets
  pub makes : (i : ℕ) → IsStored t → IsRegionIn t i span → IsWithinRegion t.inner.index.last span.first span.next first
      → MakesIndex t.inner.index t.store (page_count t.store + 1) change
      (Replaces (entry_at span) (entry_at span ∷ added_at first t.store ∷ []) (entries_in t.inner.index t.store))
  pub fills : (i : ℕ) → IsStored t → IsRegionIn t i span → IsWithinRegion t.inner.index.last span.first span.next first
      → KeepsFilled t.inner.index t.store change

-- what is prepared for a region that goes
pub record IsDropReady (t : TreeView) (span : Region) (change : ChangeView) : Type 0 where
  pub bounds : (1 ≤ t.inner.index.root) × (1 ≤ t.inner.index.levels) × (page_count t.store < 2 ^ 32)
  pub made : IsHonest t.store → IsDropped t.inner.index t.store span.first change
  pub spelled : IsHonest t.store → AllByRecursion (IsSpelledAt t (page_count t.store) change) change.sheets
  pub pages : IsHonest t.store → AreIndexPages t.inner.index.last change.sheets
  pub next : change.next ≡ page_count t.store
  pub makes : (i : ℕ) → IsStored t → IsRegionIn t i span → IsBefore origin span.first
      → MakesIndex t.inner.index t.store (page_count t.store) change (Replaces (entry_at span) [] (entries_in t.inner.index t.store))

-- why a change of the index isn't prepared: as a search, or a change, is refused
abbrev pub IsReadyFault : TreeView → TreeFault → Type 0
IsReadyFault t Full = IsIndexFull t
IsReadyFault t (Page page fault) = (¬ (IsSound t)) × IsChangeRefused t page fault
IsReadyFault t (Store store.BadSize) = IsFull t
IsReadyFault t (Store store.NoPage) = (¬ (IsSound t)) × IsChangeMissing t
IsReadyFault t fault = IsReadFault t fault

-- a call that prepares a change: with the device's fault the store has one failed read more, and else nothing has changed
pub record MakesReady {A : Type 0} (old new : TreeView) (result : Result A TreeFault) : Type 0 where
  pub same : new ≡ record old { store = read_store result old.store }
  pub faults : IfErr result (IsReadyFault old)

-- what a call within that gives the store pages, up to this count, leaves where it is refused; and that call
abbrev pub IsGrowthLeft : ℕ → TreeView → TreeView → TreeFault → Type 0
IsGrowthLeft count old new Memory = Leaves old new
IsGrowthLeft count old new (Store store.Device) = IsTrue old.store.can_fail × HasEnded (Store store.Device) old new
IsGrowthLeft count old new (Store store.BadSize) = (4294967295 < count) × Leaves old new
IsGrowthLeft count old new _ = ⊥

pub record GrowsTo {A : Type 0} (count : ℕ) (old new : TreeView) (result : Result A TreeFault) : Type 0 where
  pub frame : new ≡ record old { placed = new.placed; is_failed = new.is_failed; store = written_store result old.store new.store }
  pub grows : Grows old.store new.store
  pub done : OnOk result ((new.is_failed ≡ old.is_failed) × (page_count new.store ≡ count))
  pub left : IfErr result (IsGrowthLeft count old new)

-- a call within that only writes, of the pages but the first only that of this number and a region's; the first has the mark of a changed table
pub record WritesBoth {A : Type 0} (number : ℕ) (span : Region) (old new : TreeView) (result : Result A TreeFault) : Type 0 where
  pub frame : new ≡ record old { placed = new.placed; is_changed = new.is_changed; is_failed = new.is_failed; store = written_store result old.store new.store }
  pub kept : KeepsUnless new.is_changed old.store new.store
  pub marked : number ≢ 0 → span.page ≢ 0 → KeepsMark old new
  pub done : OnOk result (new.is_failed ≡ old.is_failed)
  pub faults : IfErr result (IsWriteFault old new)
  pub others : KeepsOthers (0 ∷ number ∷ span.page ∷ []) old.store new.store

-- why the pages that a change spells aren't put: the store failed, which it then can, or it has fewer pages than the change needs
abbrev pub IsIndexFault : ChangeView → StoreFacts → TreeFault → Type 0
IsIndexFault change old (Store fault) = IsPutFault change.next change.sheets old fault
IsIndexFault change old _ = ⊥

-- a call within that puts the pages of the index that a change spells, and takes over its root
pub record PutsIndex {A : Type 0} (change : ChangeView) (old new : TreeView) (result : Result A TreeFault) : Type 0 where
  pub now : OnOk result (new ≡ record old { placed = new.placed; store = new.store; inner = record old.inner { index = changed old.inner.index change } })
  pub marked : new.is_changed ≡ old.is_changed
  pub stand : AreOnce change.sheets → IsHonest old.store → OnOk result (Stand new.store.pages change.sheets)
  pub kept : PutsSheets change.sheets old.store new.store
  pub works : OnOk result (new.store ≡ record old.store { pages = new.store.pages; synced = new.store.synced })
  pub stopped : IfErr result (λ fault. HasStopped fault old new × IsIndexFault change old.store fault)

-- where rows were only put in before, that is so still
abbrev pub KeepsGrown : TreeView → TreeView → Type 0
KeepsGrown old new = IsOnlyGrown old → IsOnlyGrown new

-- in place of the region at an index stand two, the second on a page of its own
abbrev pub IsSplitAt : ℕ → Region → Halves → TreeView → TreeView → Type 0
IsSplitAt index span halves old new =
    (n : ℕ) × (new.placed ≡ placed_with index (record { page = span.page; region = record { first = span.first; rows = halves.left } } ∷ record { page = n; region = record { first = halves.first; rows = halves.right } } ∷ []) old.placed)

-- what becomes of a region that begins with this key, of these rows
abbrev pub split_of : Schema → Key → List Row → List RegionRows
split_of schema first rows = split_region schema.dims schema.page_rows (record { first = first; rows = rows })

-- rows that can stand in place of those of a region: they make a region, or two, and the second begins there
pub record CanStand (t : TreeView) (span : Region) (rows : List Row) : Type 0 where
  pub each : AllByRecursion (IsRegion t.schema) (split_of t.schema span.first rows)
  pub within : t.schema.page_rows < length rows → IsWithinRegion t.inner.index.last span.first span.next (split t.schema.dims t.schema.page_rows rows).first

-- in place of the region at an index these
abbrev pub regions_with : ℕ → List RegionRows → List RegionRows → List RegionRows
regions_with index news regions = take index regions ++ news ++ drop (suc index) regions

-- a region has these rows now, or it and a new one where they are more than a page holds; where rows were only put in before, that is so still
abbrev pub StoresRows : {A : Type 0} → Region → List Row → TreeView → TreeView → Result A TreeFault → Type 0
StoresRows span rows old new result =
    (i : ℕ) → IsStored old → IsRegionIn old i span → AllByRecursion (IsRegion old.schema) (split_of old.schema span.first rows)
    → OnOk result (IsStored new × (regions new ≡ regions_with i (split_of old.schema span.first rows) (regions old)) × KeepsGrown old new)

-- a call within that puts these halves in place of a region's rows, the second on a page of its own
pub record Splits {A : Type 0} (span : Region) (parts : Halves) (old new : TreeView) (result : Result A TreeFault) : Type 0 where
  pub same : OnOk result (StoresAt span old.schema.page_rows old new)
  pub written : (i : ℕ) → IsStored old → IsRegionIn old i span → OnOk result (IsStored new × IsSplitAt i span parts old new × KeepsGrown old new)
  pub halves : OnOk result (IsHonest old.store → SpellsHalves new span.page (page_count old.store) span.first parts)
  pub counted : AnswersAt (Unit {0}) old span result
  pub effect : Changes old new result

-- a call within that puts these rows in place of those of a region, which had so many
pub record Stores {A : Type 0} (span : Region) (count : ℕ) (rows : List Row) (old new : TreeView) (result : Result A TreeFault) : Type 0 where
  pub same : OnOk result (StoresAt span count old new)
  pub written : StoresRows span rows old new result
  pub put : OnOk result (IsHonest old.store → StandAt span count rows old new)
  pub counted : AnswersAt (count ≡ old.schema.page_rows) old span result
  pub effect : Changes old new result
