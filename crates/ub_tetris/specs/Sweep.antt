-- What contracts see of a sweep, and how it stands to its plan and to the tree over which it goes.
use Rattle.std.specs.Prelude.{◌≡◌, ◌≢◌, ◌≤◌, ◌+◌, ◌*◌, ◌++◌, ◌∷◌, ◌⊎◌, [], ℕ, Bool, true, false, List, Option, Some, None, length, map, slice_index, Contains}
use Rattle.ub_tetris.specs.Common.{All, AllByRecursion, ArePartsOf, Corners, Event, holds_key, IsAlong, IsInOrder, IsSound, IsStretchOf, Key, Meets}
use Rattle.ub_tetris.specs.Common.{MeetsAny, Placed, plan_of, PlanView, Region, regions, regions_in, Row, Schema, selected_rows, spans_of, Stretch}
use Rattle.ub_tetris.specs.Common.{Sweep, swept_order, TreeView, whole_of}
use Rattle.ub_planning.specs.declared.planned.Kind.{Kind}
use Rattle.ub_table.specs.declared.schema.TheConstants.{MAX_ROWS}
use Rattle.ub_tetris.specs.Held.{HeldRow, AreHeldBy, rows_held}
use Rattle.ub_tetris.specs.Machine.{IsUnderWay, IsRowAlong, IsRowPast, regions_at}
use Rattle.ub_tetris.specs.Awaited.{AreStretchesOf, AreValued, most_regions, times_held}
pub use Rattle.ub_tetris.specs.Awaited.{AwaitedRegion, AwaitedStretch}

-- a sweep: its dimension and direction; the rows that it holds; the stretches to which it is to come, in whatever order; whether it has failed
pub record SweepView : Type 0 where
  pub dim : ℕ
  pub is_descending : Bool
  pub held : List HeldRow
  pub awaited : List AwaitedStretch
  pub is_failed : Bool

-- a sweep can't give more rows than this: those that it holds, and those for which the regions of the stretches that it awaits can have room
abbrev pub rows_left : SweepView → ℕ
rows_left s = length s.held + most_regions s.awaited * MAX_ROWS

-- the plan is that of its query over a table of this schema: a sweep in this dimension and direction
abbrev pub IsSweepOf : Schema → PlanView → ℕ → Bool → Type 0
IsSweepOf schema plan dim is_descending = (plan ≡ plan_of schema plan.asked) × (plan.kind ≡ Sweep dim is_descending)

-- the tree is sound, and the plan that of its query over the tree's schema: a sweep in this dimension and direction
pub record IsSwept (t : TreeView) (plan : PlanView) (dim : ℕ) (is_descending : Bool) : Type 0 where
  pub sound : IsSound t
  pub planned : plan ≡ plan_of t.schema plan.asked
  pub kind : plan.kind ≡ Sweep dim is_descending

abbrev pub IsNoSweep : Kind → Type 0
IsNoSweep kind = (dim : ℕ) (is_descending : Bool) → kind ≢ Sweep dim is_descending

-- the trace has the pages of the regions of these events, in their order
pub record AreNoted (t : TreeView) (events : List Event) : Type 0 where
  pub placed : List Placed
  pub there : AllByRecursion (Contains t.placed) placed
  pub regions_are : regions_in placed ≡ regions_at events
  pub trace_is : t.trace.pages ≡ map (λ p. p.page) placed

-- a region come to is a region of the tree, and that of the event, with its value
pub record IsAwaited (t : TreeView) (awaited : AwaitedRegion) (event : Event) : Type 0 where
  pub there : Contains (spans_of t) awaited.region
  pub first : awaited.region.first ≡ event.span.region.first
  pub value : awaited.value ≡ event.value

-- the stretches awaited over a sound tree: no two hold one key, and the regions within them that meet the boxes are those of these events
pub record AreAhead (t : TreeView) (boxes : List Corners) (dim : ℕ) (is_descending : Bool)
    (awaited : List AwaitedStretch) (events : List Event) : Type 0 where
  pub told : AreStretchesOf t awaited
  pub valued : AreValued boxes dim is_descending awaited
  pub apart : (key : Key) → times_held key awaited ≤ 1
  pub all : (region : Region) → Contains (spans_of t) region → Meets boxes region → 1 ≤ times_held region.first awaited
      → (event : Event) × Contains events event × (event.span.region.first ≡ region.first)
  pub those : (event : Event) → Contains events event → 1 ≤ times_held event.span.region.first awaited

-- a region of one of these events lies within the stretch
abbrev pub HoldsOneOf : List Event → Stretch → Type 0
HoldsOneOf events stretch = (event : Event) × Contains events event × (holds_key stretch event.span.region.first ≡ true)

-- the stretch is a part that meets the boxes of a stretch of the tree which has this property
abbrev pub IsPartOfOne : (Stretch → Type 0) → TreeView → List Corners → Stretch → Type 0
IsPartOfOne Has t boxes stretch =
    (above : Stretch) × IsStretchOf t above × Has above × (parts : List Stretch) × ArePartsOf t boxes above parts × Contains parts stretch

-- one of the largest stretches that meet the boxes and within which no region was fetched: the whole tree, or a part of one within which one was
pub record IsLargest (t : TreeView) (boxes : List Corners) (fetched : List Event) (stretch : Stretch) : Type 0 where
  pub meets : MeetsAny boxes stretch
  pub none : ¬ (HoldsOneOf fetched stretch)
  pub above : (stretch ≡ whole_of t) ⊎ IsPartOfOne (HoldsOneOf fetched) t boxes stretch

-- the stretches awaited over a sound tree are such ones, and each region that meets the boxes and wasn't fetched lies within one of them
pub record AreLargest (t : TreeView) (boxes : List Corners) (fetched : List Event) (awaited : List AwaitedStretch) : Type 0 where
  pub each : AllByRecursion (λ a. IsLargest t boxes fetched a.stretch) awaited
  pub all : (region : Region) → Contains (spans_of t) region → Meets boxes region
      → ((event : Event) → Contains fetched event → event.span.region.first ≢ region.first) → 1 ≤ times_held region.first awaited

-- how a sweep that hasn't failed stands to its plan and a sound tree: which rows were given and which are left, which regions were fetched or not yet
pub record IsSweeping (plan : PlanView) (t : TreeView) (s : SweepView) (given rest : List Row) (fetched unread : List Event) : Type 0 where
  pub working : s.is_failed ≡ false
  pub swept : IsSwept t plan s.dim s.is_descending
  pub under_way : IsUnderWay t.schema plan s.dim s.is_descending (regions t) (rows_held s.held) given rest fetched unread
  pub values : AreHeldBy t.schema (swept_order plan.asked.group plan.asked.order) s.held
  pub noted : AreNoted t fetched
  pub awaited : AreAhead t plan.covering.boxes s.dim s.is_descending s.awaited unread
  pub largest : AreLargest t plan.covering.boxes fetched s.awaited

-- the next row was given: these regions were fetched for it, and those fetched are now just the ones whose event values aren't past it
pub record HasGiven (plan : PlanView) (t : TreeView) (s : SweepView) (given rest : List Row) (fetched unread : List Event) (row : Row) : Type 0 where
  pub more : List Row
  pub read : List Event
  pub left : List Event
  pub next : rest ≡ row ∷ more
  pub parts : unread ≡ read ++ left
  pub reached : All (λ event. ¬ IsRowAlong s.dim s.is_descending row event.value) (fetched ++ read)
  pub sweeping : IsSweeping plan t s (given ++ row ∷ []) more (fetched ++ read) left

-- no row is left: all regions were fetched
pub record HasEnded (plan : PlanView) (t : TreeView) (s : SweepView) (given rest : List Row) (fetched unread : List Event) : Type 0 where
  pub none : rest ≡ []
  pub sweeping : IsSweeping plan t s given [] (fetched ++ unread) []

abbrev pub HasStepped : PlanView → TreeView → SweepView → List Row → List Row → List Event → List Event → Option Row → Type 0
HasStepped plan t s given rest fetched unread None = HasEnded plan t s given rest fetched unread
HasStepped plan t s given rest fetched unread (Some row) = HasGiven plan t s given rest fetched unread row

-- the rows of the next value were given, by row number: all that are left of its coordinate; the regions fetched are now just those not past it
pub record HasGivenValue (plan : PlanView) (t : TreeView) (s : SweepView) (given rest : List Row) (fetched unread : List Event)
    (rows : List Row) : Type 0 where
  pub value : ℕ
  pub more : List Row
  pub read : List Event
  pub left : List Event
  pub some : rows ≢ []
  pub next : rest ≡ rows ++ more
  pub of_value : All (λ row. slice_index row.dims s.dim ≡ value) rows
  pub past : All (λ row. IsRowPast s.dim s.is_descending value row) more
  pub by_number : IsInOrder rows
  pub parts : unread ≡ read ++ left
  pub reached : All (λ event. ¬ (IsAlong s.is_descending value event.value)) (fetched ++ read)
  pub sweeping : IsSweeping plan t s (given ++ rows) more (fetched ++ read) left

abbrev pub HasSteppedValue : PlanView → TreeView → SweepView → List Row → List Row → List Event → List Event → Option (List Row) → Type 0
HasSteppedValue plan t s given rest fetched unread None = HasEnded plan t s given rest fetched unread
HasSteppedValue plan t s given rest fetched unread (Some rows) = HasGivenValue plan t s given rest fetched unread rows

-- asking for the next row was ended by a fault: the first regions not yet fetched were, in order, none past the next row, and their pages are noted
pub record HasBroken (t : TreeView) (s : SweepView) (rest : List Row) (fetched unread : List Event) : Type 0 where
  pub read : List Event
  pub left : List Event
  pub parts : unread ≡ read ++ left
  pub reached : (row : Row) (more : List Row) → rest ≡ row ∷ more → All (λ event. ¬ IsRowAlong s.dim s.is_descending row event.value) read
  pub noted : AreNoted t (fetched ++ read)

-- a sink took rows such as these, after those that it had taken before
abbrev pub HandsOver : {K : Type 0} → (K → List Row → K → Type 0) → K → K → (List Row → Type 0) → Type 0
HandsOver {K = K} HasTaken old new Are = (rows : List Row)
    × ((before : K) (taken : List Row) → HasTaken before taken old → HasTaken before (taken ++ rows) new) × Are rows

-- all regions not yet fetched were fetched, each once and in order; these are their selected rows, one region after the other
pub record HasHandedOver (plan : PlanView) (t : TreeView) (fetched unread : List Event) (rows : List Row) : Type 0 where
  pub rows_are : rows ≡ selected_rows t.schema plan (regions_at unread)
  pub noted : AreNoted t (fetched ++ unread)

-- that was ended by a fault: the first of the regions not yet fetched were, each once and in order, and their pages stand in the trace
pub record HasBrokenOff (t : TreeView) (fetched unread : List Event) : Type 0 where
  pub read : List Event
  pub left : List Event
  pub parts : unread ≡ read ++ left
  pub noted : AreNoted t (fetched ++ read)

-- a sweep that was begun over a tree: no row was given, and no region fetched
pub record HasBegun (plan : PlanView) (t : TreeView) (s : SweepView) : Type 0 where
  pub rest : List Row
  pub unread : List Event
  pub sweeping : IsSweeping plan t s [] rest [] unread

abbrev pub AreItsStretches : TreeView → SweepView → Type 0
AreItsStretches t s = AreStretchesOf t s.awaited

-- a sweep that was begun over any tree: it holds nothing, hasn't failed, and awaits stretches that the tree tells of
pub record IsStarted (t : TreeView) (s : SweepView) : Type 0 where
  pub none : s.held ≡ []
  pub working : s.is_failed ≡ false
  pub stretches : AreItsStretches t s
