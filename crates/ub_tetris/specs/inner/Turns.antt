-- What the turns of a sweep do to it: the first of those awaited is opened or fetched, or the first row is taken.
use Rattle.std.specs.Prelude.{◌≡◌, ◌≤◌, ◌<◌, ◌++◌, ◌∷◌, ◌⊎◌, ℕ, Bool, true, false, not, List, [], Option, Some, None, Result, OnOk, slice_index}
use Rattle.ub_tetris.specs.Common.{ArePartsOf, Awaited, Choice, Contains, filter, HasNoted, is_chosen, is_past, IsPermutation, IsSound, IsTakenIn}
use Rattle.ub_tetris.specs.Common.{KeepsTrace, PlanView, ReadFault, RegionRows, Row, spans_of, swept_order, TreeView}
use Rattle.ub_tetris.specs.Awaited.{AreValued, AwaitedStretch, HaveDimension, most_regions, stretches_of}
use Rattle.ub_tetris.specs.Effects.{Sweeps, of_reading}
use Rattle.ub_tetris.specs.Sweep.{HandsOver, SweepView}
use Rattle.ub_tetris.specs.declared.state.State.{State}
use Rattle.ub_tetris.specs.inner.Events.{Ahead, IsFirstAwaited, seen}
use Rattle.ub_tetris.specs.inner.Kept.{HoldsAlso, IsFirstOf}
use Rattle.ub_tree.specs.Calls.{StandsAt}

-- what contracts see of a sweep in this state
abbrev pub view_by : State → Bool → SweepView
view_by s is_failed = record {
  dim = s.ahead.dim;
  is_descending = s.ahead.is_descending;
  held = s.held;
  awaited = s.ahead.stretches;
  is_failed = is_failed;
}

abbrev pub view_of : State → SweepView
view_of s = view_by s false

-- that of a sweep which holds nothing yet
abbrev pub begun_view : Ahead → SweepView
begun_view ahead = record { dim = ahead.dim; is_descending = ahead.is_descending; held = []; awaited = ahead.stretches; is_failed = false }

-- ---- which is next

-- a stretch of this event value is due while no row is held, and while it isn't past the first of those held
abbrev pub is_due_by : SweepView → ℕ → Option Row → Bool
is_due_by s value None = true
is_due_by s value (Some row) = not (is_past s.is_descending (slice_index row.dims s.dim) value)

abbrev pub IsDueAs : SweepView → ℕ → Bool → Type 0
IsDueAs s value due = (first : Option Row) × IsFirstOf s.held first × (due ≡ is_due_by s value first)

abbrev pub IsDue : SweepView → ℕ → Type 0
IsDue s value = IsDueAs s value true

-- none is awaited, or the first of those awaited is past the first of those held
abbrev pub IsNoneDue : SweepView → Type 0
IsNoneDue s =
    (s.awaited ≡ [])
    ⊎ ((next : AwaitedStretch) × Contains s.awaited next × IsFirstAwaited s.is_descending next s.awaited
    × (row : Row) × IsFirstOf s.held (Some row) × (is_past s.is_descending (slice_index row.dims s.dim) next.value ≡ true))

-- this one was taken out of those awaited, the first of them
pub record HasTakenNext (s new_s : SweepView) (next : AwaitedStretch) : Type 0 where
  pub same : new_s ≡ record s { awaited = new_s.awaited }
  pub parts : IsPermutation s.awaited (next ∷ new_s.awaited)
  pub first : IsFirstAwaited s.is_descending next new_s.awaited

-- it was where it is due; else nothing was
abbrev pub TakesDue : SweepView → SweepView → Option Awaited → Type 0
TakesDue s new_s None = (new_s ≡ s) × IsNoneDue s
TakesDue s new_s (Some next) = HasTakenNext s new_s (seen next) × IsDue s next.value

-- ---- what comes of it

-- a sweep that awaits this one too
abbrev pub with_next : SweepView → AwaitedStretch → SweepView
with_next s next = record s { awaited = next ∷ s.awaited }

-- the page of a region was noted, or the tree refused before; of a stretch that was to be opened none was
abbrev pub IsAskedFor : TreeView → TreeView → AwaitedStretch → Type 0
IsAskedFor t new next = KeepsTrace t new ⊎ ((next.stretch.level ≡ 0) × HasNoted next.stretch.span.page t new)

-- it was asked for, the first of those awaited, and the tree was read and no more
pub record AsksNext {A : Type 0} (plan : PlanView) (t new : TreeView) (s new_s : SweepView) (next : AwaitedStretch)
    (result : Result A ReadFault) : Type 0 where
  pub asked : IsAskedFor t new next
  pub effect : IsFirstAwaited s.is_descending next s.awaited → Sweeps plan (with_next s next) new_s t new (of_reading result)

-- the region was read: this is it
pub record HasRead (t new : TreeView) (next : AwaitedStretch) (region : RegionRows) : Type 0 where
  pub lowest : next.stretch.level ≡ 0
  pub same : new ≡ record t { trace = new.trace }
  pub noted : HasNoted next.stretch.span.page t new
  pub first : region.first ≡ next.stretch.span.first
  pub taken : IsTakenIn t next.stretch.span region
  pub stands : IsSound t → Contains (spans_of t) next.stretch.span → StandsAt t.placed next.stretch.span.page region

-- these are its rows that are chosen
pub record HasFetched (plan : PlanView) (t new : TreeView) (next : AwaitedStretch) (rows : List Row) : Type 0 where
  pub region : RegionRows
  pub read : HasRead t new next region
  pub choice : Choice
  pub rows_are : rows ≡ filter (is_chosen choice t.schema plan) region.rows

-- these stretches came in its place, each with its event value: its parts that meet the plan's boxes; or none, where these lack the dimension
pub record HasOpened (plan : PlanView) (t new : TreeView) (s new_s : SweepView) (next : AwaitedStretch) : Type 0 where
  pub upper : 1 ≤ next.stretch.level
  pub same : new ≡ t
  pub held : new_s.held ≡ s.held
  pub queued : List AwaitedStretch
  pub now_are : IsPermutation (s.awaited ++ queued) new_s.awaited
  pub valued : AreValued plan.covering.boxes s.dim s.is_descending queued
  pub parts : ArePartsOf t plan.covering.boxes next.stretch (stretches_of queued) ⊎ ((queued ≡ []) × ¬ (HaveDimension s.dim plan.covering.boxes))

-- it was come to, and these rows came
pub record HasComeTo (plan : PlanView) (t new : TreeView) (s new_s : SweepView) (next : AwaitedStretch) (rows : List Row) : Type 0 where
  pub view_is : new_s ≡ record s { held = new_s.held; awaited = new_s.awaited }
  pub how : (HasOpened plan t new s new_s next × (rows ≡ [])) ⊎ ((new_s.awaited ≡ s.awaited) × HasFetched plan t new next rows)
  pub fewer : most_regions new_s.awaited < most_regions (next ∷ s.awaited)

-- ---- what a turn promises

-- the parts of a stretch came in its place
pub record OpensNext (plan : PlanView) (t new : TreeView) (s new_s : SweepView) (opened : AwaitedStretch)
    (result : Result (Unit {0}) ReadFault) : Type 0 where
  pub next : AsksNext plan t new s new_s opened result
  pub held : new_s.held ≡ s.held
  pub came : OnOk result (HasComeTo plan t new s new_s opened [])

-- a region was read to its page, by whatever plan
pub record ReadsNext (t new : TreeView) (s new_s : State) (region : AwaitedStretch) (result : Result (Unit {0}) ReadFault) : Type 0 where
  pub next : (plan : PlanView) → AsksNext plan t new (view_of s) (view_of new_s) region result
  pub same : view_of new_s ≡ view_of s
  pub dims : OnOk result (new_s.page.dims ≡ t.schema.dims)
  pub read : OnOk result (HasRead t new region new_s.page.region)

-- the rows that came are held beside those that were
pub record HoldsNext (plan : PlanView) (t new : TreeView) (s new_s : SweepView) (come_to : AwaitedStretch)
    (result : Result (Unit {0}) ReadFault) : Type 0 where
  pub next : AsksNext plan t new s new_s come_to result
  pub rows : OnOk result ((rows : List Row) × HasComeTo plan t new s new_s come_to rows
      × HoldsAlso t.schema (swept_order plan.asked.group plan.asked.order) rows s.held new_s.held)

-- a sink took them, and those held are those that were
pub record HandsTurn {K : Type 0} (HasTaken : K → List Row → K → Type 0) (plan : PlanView) (t new : TreeView) (s new_s : SweepView)
    (come_to : AwaitedStretch) (sink new_sink : K) (result : Result (Unit {0}) ReadFault) : Type 0 where
  pub next : AsksNext plan t new s new_s come_to result
  pub held : new_s.held ≡ s.held
  pub rows : OnOk result (HandsOver HasTaken sink new_sink (HasComeTo plan t new s new_s come_to))
