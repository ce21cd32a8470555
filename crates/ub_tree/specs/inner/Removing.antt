-- What the steps of a removal do to a tree, and what they need.
use Rattle.std.specs.Prelude.{◌≡◌, ◌+◌, ◌++◌, ◌/◌, ◌≤◌, ◌⊎◌, ℕ, true, false, List, Option, Some, None, Result, Err, IfErr, IfOk, IfSome, MatchOption, MatchResult, OnOk, is_some, length, map}
use Rattle.ub_tree.specs.Common.{AllByRecursion, BadCount, entry_of, GivesAny, IsHonest, IsNextRegion, IsPreviousRegion, IsRegion, Key, key_before}
use Rattle.ub_tree.specs.Common.{Page, Region, region_count, RegionRows, regions, RegionView, Row, settle, Store, TreeFault, TreeView}
use Rattle.ub_region.specs.Joins.{JoinsBefore, JoinsNext, put_rows}
use Rattle.ub_tree.specs.Effects.{IsTakenIn, Searches}
use Rattle.ub_tree.specs.Holding.{Answers, CanFallInto, HasRoomAt, IsJoined, IsThatOrBefore}
use Rattle.ub_tree.specs.Opened.{IsPassing}
use Rattle.ub_tree.specs.Others.{DropsEntry, KeepsEntries, WritesIndex, WritesPage}
use Rattle.ub_tree.specs.Pages.{LeavesRows, Spells}
use Rattle.ub_tree.specs.Removal.{Lessens}
use Rattle.ub_tree.specs.Told.{FallsTo, IsRegionOf}
use Rattle.ub_tree.specs.inner.Change.{IsElsewhereSame, IsRegionIn, IsRegionThere, IsStored}
use Rattle.ub_store.specs.declared.fault.StoreFault.TheVariants as store

-- two neighbours of which the tree tells, and a region in memory that can stand in the place of the first
pub record IsPair (t : TreeView) (first second : Region) (page : RegionView) : Type 0 where
  pub there : IsRegionThere t first
  pub told : IsRegionOf t second
  pub ends : first.next ≡ Some second.first
  pub begins : page.region.first ≡ first.first
  pub region : IsRegion t.schema (record { first = first.first; rows = page.region.rows })

-- a region was written anew with these rows, and the next one is no more; all else is as it was
pub record JoinsAt (span : Region) (rows : List Row) (old new : TreeView) : Type 0 where
  pub same : IsElsewhereSame old new
  pub others : WritesIndex span.page old new
  pub dropped : DropsEntry span old new
  pub put : IsHonest old.store → Spells new span.page span.first rows

-- these rows are left of a region, alone or with those of a neighbour; all else is as it was
pub record TakesAt (span : Region) (rows : List Row) (old new : TreeView) : Type 0 where
  pub same : IsElsewhereSame old new
  pub shrunk : (WritesPage span.page old new × KeepsEntries old new)
      ⊎ ((first : Region) × IsThatOrBefore old span first × WritesIndex first.page old new × DropsEntry first old new)
  pub put : IsHonest old.store → LeavesRows span rows old new

-- the region after another one was sought, if there is one: it begins where that one tells; of stored regions it is the next one
pub record FindsNext (span : Region) (old new : TreeView) (result : Result (Option Region) TreeFault) : Type 0 where
  pub begins : IfOk result (λ found. IfSome found (λ next. span.next ≡ Some next.first))
  pub falls : IfOk result (λ found. IfSome found (IsRegionOf old))
  pub last : IfOk result (λ found. found ≡ None → span.next ≡ None)
  pub led : (told : Option Region) → IsHonest old.store → GivesAny old.inner.index old.store span.next told → MatchResult result (λ found. found ≡ told) IsPassing
  pub after : (i : ℕ) → IsStored old → IsRegionIn old i span → IfOk result (IsNextRegion (map entry_of old.placed) i)
  pub effect : Searches old new result

-- the region before another one was sought, if there is one: it ends where that one begins; of stored regions it is the one before
pub record FindsPrevious (span : Region) (old new : TreeView) (result : Result (Option Region) TreeFault) : Type 0 where
  pub ends : IfOk result (λ found. IfSome found (λ before. before.next ≡ Some span.first))
  pub falls : IfOk result (λ found. IfSome found (λ before. (key : Key) × (key_before span.first.z span.first.number ≡ Some key) × FallsTo old key before))
  pub led : (told : Option Region) → IsHonest old.store → GivesAny old.inner.index old.store (key_before span.first.z span.first.number) told
      → MatchResult result (λ found. found ≡ told) IsPassing
  pub before : (i : ℕ) → IsStored old → IsRegionIn old i span → IfOk result (IsPreviousRegion (map entry_of old.placed) i)
  pub effect : Searches old new result

-- what must be answered where so many rows are left of a region: no page is refused if no neighbour is needed; BadCount if one is but isn't counted
pub record AnswersLeft {A : Type 0} (t : TreeView) (span : Region) (left : ℕ) (result : Result A TreeFault) : Type 0 where
  pub spare : t.schema.page_rows / 2 ≤ left → IfErr result (λ fault. fault ≡ Store store.Device)
  pub alone : IsHonest t.store → region_count t ≡ 1 → IsJoined t span left → Answers result (Page 0 BadCount)

-- what must be answered where the neighbour to which this key falls is read, to be joined with so many rows: it is given where it has room for them
pub record AnswersBeside (t : TreeView) (sought : Option Key) (count : ℕ) (result : Result (Option Region) TreeFault) : Type 0 where
  pub led : IsHonest t.store → CanFallInto t sought → IfErr result IsPassing
  pub fits : IsHonest t.store → HasRoomAt t sought count → IfOk result (λ found. is_some found ≡ true)

-- the rows of the next region were put behind those of this one
pub record HasTakenNext (t : TreeView) (span : Region) (rows : List Row) (page : RegionView) (next : Region) : Type 0 where
  pub pair : IsPair t span next page
  pub stored : (i : ℕ) → IsStored t → IsRegionIn t i span → IsRegionIn t (i + 1) next
  pub taken : (other : RegionRows) × IsTakenIn t next other × (page.region.rows ≡ rows ++ other.rows)

-- the rows of this region were put behind those of the one before
pub record HasTakenBefore (t : TreeView) (span : Region) (rows : List Row) (page : RegionView) (before : Region) : Type 0 where
  pub pair : IsPair t before span page
  pub falls : (key : Key) × (key_before span.first.z span.first.number ≡ Some key) × FallsTo t key before
  pub stored : (i : ℕ) → IsStored t → IsRegionIn t i span → (j : ℕ) × (i ≡ j + 1) × IsRegionIn t j before
  pub taken : (other : RegionRows) × IsTakenIn t before other × (page.region.rows ≡ other.rows ++ rows)

-- a call within that puts these rows on the page of the first of two neighbours, which the second one then is a part of
pub record Joins {A : Type 0} (first second : Region) (rows : List Row) (old new : TreeView) (result : Result A TreeFault) : Type 0 where
  pub joined : OnOk result (JoinsAt first rows old new)
  pub written : (i : ℕ) → IsStored old → IsRegionIn old i first → IsRegionIn old (i + 1) second → AllByRecursion (IsRegion old.schema) (put_rows i true rows (regions old))
      → OnOk result (IsStored new × (regions new ≡ put_rows i true rows (regions old)))
  pub alone : region_count old ≡ 1 → result ≡ Err (Page 0 BadCount)
  pub leaves : Lessens old new result

-- a call within that takes over the rows of the next region, or of the one before, into the one in memory, and tells which it is; or takes none
pub record JoinsNextTo (span : Region) (page taken : RegionView) (old new : TreeView) (result : Result (Option Region) TreeFault) : Type 0 where
  pub found : IfOk result (λ found. MatchOption found (taken ≡ page) (HasTakenNext old span page.region.rows taken))
  pub joined : (i : ℕ) → IsStored old → IsRegionIn old i span
      → IfOk result (λ found. JoinsNext old.schema.page_rows i page.region.rows taken.region.rows (is_some found) (regions old))
  pub refused : AnswersBeside old span.next (length page.region.rows) result
  pub effect : Searches old new result

pub record JoinsToBefore (span : Region) (page taken : RegionView) (old new : TreeView) (result : Result (Option Region) TreeFault) : Type 0 where
  pub found : IfOk result (λ found. MatchOption found (taken ≡ page) (HasTakenBefore old span page.region.rows taken))
  pub joined : (i : ℕ) → IsStored old → IsRegionIn old i span
      → IfOk result (λ found. JoinsBefore old.schema.page_rows i page.region.rows taken.region.rows (is_some found) (regions old))
  pub refused : AnswersBeside old (key_before span.first.z span.first.number) (length page.region.rows) result
  pub effect : Searches old new result

-- a call within that puts the rows that are left of a region on its page, or joins them with those of a neighbour
pub record Settles {A : Type 0} (span : Region) (rows : List Row) (old new : TreeView) (result : Result A TreeFault) : Type 0 where
  pub taken : OnOk result (TakesAt span rows old new)
  pub written : (i : ℕ) → IsStored old → IsRegionIn old i span → AllByRecursion (IsRegion old.schema) (settle old.schema.page_rows i (put_rows i false rows (regions old)))
      → OnOk result (IsStored new × (regions new ≡ settle old.schema.page_rows i (put_rows i false rows (regions old))))
  pub refused : AnswersLeft old span (length rows) result
  pub leaves : Lessens old new result
