-- What carrying out a plan reads of any tree, also of one that isn't sound: which pages are noted, and that each was taken in.
use Rattle.std.specs.Prelude.{◌≡◌, ◌≢◌, ◌≤◌, ◌++◌, ◌∷◌, ◌⊎◌, [], ℕ, Bool, List, Option, Some, None, Result, Ok, Err, OnOk, length, map}
use Rattle.ub_exec.specs.Common.{AllByRecursion, AreInOrder, AreStretchesOf, AreValued, AwaitedRegion, AwaitedStretch, Corners, HasNoted, HoldsAny}
use Rattle.ub_exec.specs.Common.{IsSweepOf, IsTakenIn, KeepsTrace, Key, lowest, PlanView, ReadFault, ReadsTree, Region, RegionRows, Row}
use Rattle.ub_exec.specs.Common.{times_held, TreeView, whole_of}
use Rattle.ub_exec.specs.Answers.{IsSwept}
use Rattle.ub_tetris.specs.Effects.{AreAsked, fetches_then}
use Rattle.ub_tree.specs.Handing.{AreMetBy}
use Rattle.ub_tree.specs.Told.{AreFirst, GivesNext, IsRegionOf}

-- the page spells the region of this span
abbrev pub IsIn : TreeView → Region → Type 0
IsIn t span = (region : RegionRows) × IsTakenIn t span region

-- the page is that of a region that the tree tells of, which was taken in
abbrev pub IsRead : TreeView → ℕ → Type 0
IsRead t page = (span : Region) × IsRegionOf t span × (span.page ≡ page) × IsIn t span

-- pages were noted after those in the trace, and so many fetches; where it answers, each is of a region that the tree tells of and that was taken in
pub record NotesPages {A : Type 0} (old new : TreeView) (result : Result A ReadFault) : Type 0 where
  pub noted : List ℕ
  pub trace_is : new.trace.pages ≡ old.trace.pages ++ noted
  pub fetches_are : new.trace.fetches ≡ fetches_then old.trace.fetches (length noted)
  pub read : OnOk result (AllByRecursion (IsRead old) noted)

-- so pages were noted, and the tree was read and no more
pub record ReadsNoting {A : Type 0} (old new : TreeView) (result : Result A ReadFault) : Type 0 where
  pub notes : NotesPages old new result
  pub reads : ReadsTree old new result

-- no region that meets the boxes was passed over: all that the tree tells of were taken in, and their pages noted, in this order, and no others
pub record HasReadAll (boxes : List Corners) (old new : TreeView) : Type 0 where
  pub spans : List Region
  pub all : AreMetBy boxes old spans
  pub taken : AllByRecursion (IsIn old) spans
  pub trace_is : new.trace.pages ≡ old.trace.pages ++ map (λ span. span.page) spans

-- these are the rows of the regions of these spans, one region after the other: each region is the one that its page spells
abbrev pub AreRowsIn : TreeView → List Region → List Row → Type 0
AreRowsIn t [] rows = rows ≡ []
AreRowsIn t (span ∷ spans) rows =
    (region : RegionRows) × (more : List Row) × IsTakenIn t span region × AreRowsIn t spans more × (rows ≡ region.rows ++ more)

-- no region that meets the boxes was passed over, and these are the rows of those that were taken in, one region after the other
pub record HasReadRows (boxes : List Corners) (old new : TreeView) (rows : List Row) : Type 0 where
  pub spans : List Region
  pub all : AreMetBy boxes old spans
  pub rows_are : AreRowsIn old spans rows
  pub trace_is : new.trace.pages ≡ old.trace.pages ++ map (λ span. span.page) spans

-- so many rows are as many as the limit says, or more; without a limit none are
abbrev pub IsFilled : Option ℕ → ℕ → Type 0
IsFilled None given = ⊥
IsFilled (Some most) given = most ≤ given

-- the regions to which a sweep of any tree has come, in this order, and the stretches that it awaits still; each meets the boxes. Each key in the
-- boxes is held by just one of them: so no region was passed over, and none was come to twice. To none was come while an earlier one was awaited
pub record HasSweptTo (boxes : List Corners) (dim : ℕ) (is_descending : Bool) (t : TreeView)
    (come : List AwaitedRegion) (left : List AwaitedStretch) : Type 0 where
  pub told : AreStretchesOf t (lowest come ++ left)
  pub valued : AreValued boxes dim is_descending (lowest come ++ left)
  pub apart : (key : Key) → times_held key (lowest come ++ left) ≤ 1
  pub all : (key : Key) → HoldsAny boxes key.z → key.z ≤ (whole_of t).span.to → 1 ≤ times_held key (lowest come ++ left)
  pub ordered : AreInOrder is_descending come left

-- a sweep from which so many rows came: the regions to which it has come were taken in and noted, and nothing is awaited, or the limit is filled
pub record HasSweptSome (boxes : List Corners) (dim : ℕ) (is_descending : Bool) (limit : Option ℕ) (old new : TreeView) (rows : ℕ) : Type 0 where
  pub come : List AwaitedRegion
  pub left : List AwaitedStretch
  pub swept : HasSweptTo boxes dim is_descending old come left
  pub taken : AllByRecursion (λ a. IsIn old a.region) come
  pub trace_is : new.trace.pages ≡ old.trace.pages ++ map (λ a. a.region.page) come
  pub ended : (left ≡ []) ⊎ IsFilled limit rows

-- where a fault ended it: the pages of the regions to which it has come were noted, in this order; that of the last one alone may be missing
pub record HasSweptFirst (boxes : List Corners) (dim : ℕ) (is_descending : Bool) (old new : TreeView) : Type 0 where
  pub come : List AwaitedRegion
  pub left : List AwaitedStretch
  pub swept : HasSweptTo boxes dim is_descending old come left
  pub noted : List ℕ
  pub once : AreAsked come noted
  pub trace_is : new.trace.pages ≡ old.trace.pages ++ noted

-- what a sweep reads where it answers, and where a fault ends it, which may come before it is begun: then no page is noted
abbrev pub HasSweptBy : {A : Type 0} → List Corners → ℕ → Bool → Option ℕ → TreeView → TreeView → (A → ℕ) → Result A ReadFault → Type 0
HasSweptBy boxes dim is_descending limit old new rows (Ok answer) = HasSweptSome boxes dim is_descending limit old new (rows answer)
HasSweptBy boxes dim is_descending limit old new rows (Err fault) = KeepsTrace old new ⊎ HasSweptFirst boxes dim is_descending old new

abbrev pub ReadsSwept : {A : Type 0} → PlanView → TreeView → TreeView → (A → ℕ) → Result A ReadFault → Type 0
ReadsSwept p old new rows result = (dim : ℕ) (is_descending : Bool) → IsSweepOf old.schema p dim is_descending
    → HasSweptBy p.covering.boxes dim is_descending p.asked.limit old new rows result

-- a plan was carried out over any tree, and so many rows came of it: where it answers, a scan passed over no region, unless no row is asked for, and
-- a sweep over none before the limit was filled; where a fault ends a sweep, the pages are those of the first regions to which it came
pub record CarriesOut {A : Type 0} (p : PlanView) (old new : TreeView) (rows : A → ℕ) (result : Result A ReadFault) : Type 0 where
  pub notes : NotesPages old new result
  pub scans : ¬ IsSwept p.kind → p.asked.limit ≢ Some 0 → OnOk result (HasReadAll p.covering.boxes old new)
  pub sweeps : ReadsSwept p old new rows result

-- the region that the tree gives next was taken in, and its page noted; or it gives none
abbrev pub HasReadNext : List Corners → Option Region → TreeView → TreeView → Option Region → Type 0
HasReadNext boxes after old new None = GivesNext boxes old after None × KeepsTrace old new
HasReadNext boxes after old new (Some span) = GivesNext boxes old after (Some span) × HasNoted span.page old new × IsIn old span

-- these regions stand ahead of a walk that has come to this one, if to any: the next ones that the tree gives, each after the one before it
abbrev pub StandAhead : List Corners → TreeView → Option Region → List Region → Type 0
StandAhead boxes t after left = (last : Option Region) × AreFirst boxes t after left last

-- these are the rows of that region, or none
abbrev pub AreRowsOfNext : TreeView → Option Region → List Row → Type 0
AreRowsOfNext t None rows = rows ≡ []
AreRowsOfNext t (Some span) rows = (region : RegionRows) × IsTakenIn t span region × (rows ≡ region.rows)
