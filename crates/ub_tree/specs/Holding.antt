-- The region that a key falls into, on any tree, and what a change of it must answer.
use Rattle.std.specs.Prelude.{◌≡◌, ◌≢◌, ◌+◌, ◌/◌, ◌<◌, ◌≤◌, ◌⊎◌, ℕ, Bool, true, false, Option, Some, Result, Err, IfErr, IfOk, IfSome, length}
use Rattle.ub_tree.specs.Common.{BadCount, BadOrder, Full, has_key, HasFullWay, IsHonest, Key, key_before, MAX_LEVEL, MAX_ROW_NUMBER, NeedsPages}
use Rattle.ub_tree.specs.Common.{Page, page_count, PageFault, Region, region_count, RegionRows, remove_row, Store, TreeFault, TreeView}
use Rattle.std.specs.Result.{IsErrAnd}
use Rattle.ub_tree.specs.Effects.{IsTakenIn}
use Rattle.ub_tree.specs.Opened.{IsPassing}
use Rattle.ub_tree.specs.Others.{AddsEntry, DropsEntry, KeepsEntries, WritesIndex, WritesPage}
use Rattle.ub_tree.specs.Told.{FallsTo}
use Rattle.ub_store.specs.declared.fault.StoreFault.TheVariants as store

-- a key falls into the region that the page of this number spells, in its place
pub record FallsInto (t : TreeView) (key : Key) (page : ℕ) (region : RegionRows) : Type 0 where
  pub span : Region
  pub falls : FallsTo t key span
  pub page_is : span.page ≡ page
  pub taken : IsTakenIn t span region

-- a row was put into the region that a key falls to, of any tree: its page was written; and just where it was full, the index too for a region more
pub record GrowsAt (key : Key) (old new : TreeView) : Type 0 where
  pub span : Region
  pub falls : FallsTo old key span
  pub others : (WritesPage span.page old new × KeepsEntries old new) ⊎ (WritesIndex span.page old new × AddsEntry span.first old new)
  pub full : (page : ℕ) (region : RegionRows) → IsHonest old.store → FallsInto old key page region → length region.rows ≡ old.schema.page_rows → AddsEntry span.first old new
  pub spare : (page : ℕ) (region : RegionRows) → IsHonest old.store → FallsInto old key page region → length region.rows < old.schema.page_rows → KeepsEntries old new
  pub changed : new.is_changed ≡ true

-- a region, or the one before it, which the greatest key before it falls to
abbrev pub IsThatOrBefore : TreeView → Region → Region → Type 0
IsThatOrBefore t span first = (first ≡ span) ⊎ ((key : Key) × (key_before span.first.z span.first.number ≡ Some key) × FallsTo t key first)

-- a row was taken out of the region that a key falls to, of any tree: its page was written; or it was joined with a neighbour, and the index written
pub record ShrinksAt (key : Key) (old new : TreeView) : Type 0 where
  pub span : Region
  pub falls : FallsTo old key span
  pub others : (WritesPage span.page old new × KeepsEntries old new)
      ⊎ ((first : Region) × IsThatOrBefore old span first × WritesIndex first.page old new × DropsEntry first old new)
  pub changed : new.is_changed ≡ true

-- the answer is this fault, unless memory was refused or the device failed
abbrev pub Answers : {A : Type 0} → Result A TreeFault → TreeFault → Type 0
Answers result fault = IsErrAnd result (λ told. (told ≡ fault) ⊎ IsPassing told)

-- there is no room for another region: neither a level more, nor perhaps pages
abbrev pub HasNoRoom : TreeFault → Type 0
HasNoRoom fault = (fault ≡ Full) ⊎ ((fault ≡ Store store.BadSize) ⊎ IsPassing fault)

-- why a row with this key is refused for want of room: the index's with Full, the store's with BadSize; `IsNeeded` says if another region is needed
abbrev pub IsRoomFault : Type 0 → TreeView → Key → TreeFault → Type 0
IsRoomFault IsNeeded t key Full = IsNeeded × (t.inner.index.levels ≡ MAX_LEVEL) × HasFullWay t.inner.index t.store key
IsRoomFault IsNeeded t key (Store store.BadSize) =
    IsNeeded × ((4294967295 < page_count t.store + 1)
    ⊎ ((n : ℕ) × NeedsPages t.inner.index t.store key n × (4294967295 < page_count t.store + 1 + n)))
IsRoomFault IsNeeded t key fault = Unit {0}

-- what an insertion into this region must answer, `IsFull` being that the region is full: BadCount of the first page where it is full and no region more
-- can be counted, and a page's fault nowhere else; that there is no room, where it is full, the index has 16 levels, and each page on the way to the
-- region is full; and that there is no room only for the reasons that `IsRoomFault` has
abbrev pub AnswersAt : {A : Type 0} → Type 0 → TreeView → Region → Result A TreeFault → Type 0
AnswersAt IsFull t span result =
    (IsFull → region_count t ≡ 4294967295 → result ≡ Err (Page 0 BadCount))
    × (IsHonest t.store → FallsTo t span.first span → (page : ℕ) (fault : PageFault) → result ≡ Err (Page page fault) → IsFull × (region_count t ≡ 4294967295))
    × (IsHonest t.store → FallsTo t span.first span → IsFull → region_count t ≢ 4294967295 → t.inner.index.levels ≡ MAX_LEVEL
    → HasFullWay t.inner.index t.store span.first → IsErrAnd result HasNoRoom)
    × (IsHonest t.store → FallsTo t span.first span → IfErr result (IsRoomFault IsFull t span.first))

-- what an insertion of a row with this key must answer: BadOrder of the page of its region where that has the key, and else as `AnswersAt` says
abbrev pub AnswersKey : {A : Type 0} → TreeView → Key → Result A TreeFault → Type 0
AnswersKey t key result =
    (number : ℕ) (region : RegionRows) → FallsInto t key number region
    → (has_key t.schema.dims key region.rows ≡ true → Answers result (Page number BadOrder))
    × (has_key t.schema.dims key region.rows ≡ false → length region.rows ≡ t.schema.page_rows → region_count t ≡ 4294967295
    → Answers result (Page 0 BadCount))
    × (has_key t.schema.dims key region.rows ≡ false → (page : ℕ) (fault : PageFault) → result ≡ Err (Page page fault)
    → (length region.rows ≡ t.schema.page_rows) × (region_count t ≡ 4294967295))
    × (has_key t.schema.dims key region.rows ≡ false → length region.rows ≡ t.schema.page_rows → region_count t ≢ 4294967295
    → t.inner.index.levels ≡ MAX_LEVEL → HasFullWay t.inner.index t.store key → IsErrAnd result HasNoRoom)
    × IfErr result (IsRoomFault (length region.rows ≡ t.schema.page_rows) t key)

-- the same, and Full where the last number is given
abbrev pub AnswersRow : {A : Type 0} → TreeView → Key → Result A TreeFault → Type 0
AnswersRow t key result =
    (t.next ≡ MAX_ROW_NUMBER + 1 → result ≡ Err Full)
    × (t.next ≢ MAX_ROW_NUMBER + 1 → IsHonest t.store → AnswersKey t key result)

-- where there is such a key it falls into a region
abbrev pub CanFallInto : TreeView → Option Key → Type 0
CanFallInto t sought = IfSome sought (λ key. (page : ℕ) × (region : RegionRows) × FallsInto t key page region)

-- there is such a key, and the region that it falls into has room for so many rows more
abbrev pub HasRoomAt : TreeView → Option Key → ℕ → Type 0
HasRoomAt t sought count =
    (key : Key) × (sought ≡ Some key) × (page : ℕ) × (region : RegionRows) × FallsInto t key page region
    × (count + length region.rows ≤ t.schema.page_rows)

-- so few rows are left of a region that it joins a neighbour: fewer than half a page's, and the next one has room for them, or else the one before
abbrev pub IsJoined : TreeView → Region → ℕ → Type 0
IsJoined t span left =
    (left < t.schema.page_rows / 2)
    × (HasRoomAt t span.next left ⊎ (CanFallInto t span.next × HasRoomAt t (key_before span.first.z span.first.number) left))

-- what a removal of the row with this key must answer: whether the region that the key falls into has it; BadCount of the first page where it has it and no
-- row is counted, or where what is left of it joins a neighbour and just one region is counted; and no fault but want of memory and the device's, where it
-- doesn't have it, or where as many rows are left as half of what a page holds
abbrev pub AnswersRemoval : TreeView → Key → Result Bool TreeFault → Type 0
AnswersRemoval t key result =
    (number : ℕ) (region : RegionRows) → (into : FallsInto t key number region)
    → (has_key t.schema.dims key region.rows ≡ true → t.rows ≡ 0 → Answers result (Page 0 BadCount))
    × (has_key t.schema.dims key region.rows ≡ false → IfErr result IsPassing)
    × IfOk result (λ found. found ≡ has_key t.schema.dims key region.rows)
    × (t.rows ≢ 0 → t.schema.page_rows / 2 ≤ length (remove_row t.schema.dims key region.rows) → IfErr result IsPassing)
    × (has_key t.schema.dims key region.rows ≡ true → t.rows ≢ 0 → region_count t ≡ 1
    → IsJoined t into.span (length (remove_row t.schema.dims key region.rows)) → Answers result (Page 0 BadCount))
