-- The regions that carrying out a plan fetches: those that its plan visits, each once, in their order.
use Rattle.std.specs.Prelude.{◌≡◌, ◌≤◌, ◌⊎◌, ◌++◌, ℕ, Bool, List, [], Option, Some, None, length, map, take}
use Rattle.ub_exec.specs.Common.{AllByRecursion, AreThose, Contains, Corners, filter, First, HasNoted, IsLater, KeepsTrace, Meets, Placed, PlanView}
use Rattle.ub_exec.specs.Common.{Region, regions, regions_in, Row, rows_of, spans_of, TreeView}
use Rattle.ub_planning.specs.Visits.{AreVisits}
use Rattle.ub_planning.specs.Visits as plan
pub use Rattle.ub_tetris.specs.Effects.{fetches_then}

-- the regions that a plan visits were fetched, each once, in the order of the visits, and no others: their pages stand at the end of the trace
pub record HasFetched (p : PlanView) (old new : TreeView) : Type 0 where
  pub visits : List plan.Span
  pub visits_are : AreVisits old.schema p (regions old) visits
  pub visited : List Placed
  pub there : AllByRecursion (Contains old.placed) visited
  pub regions_are : regions_in visited ≡ map (λ span. span.region) visits
  pub trace_is : new.trace.pages ≡ old.trace.pages ++ map (λ region. region.page) visited
  pub fetches_are : new.trace.fetches ≡ fetches_then old.trace.fetches (length visits)

-- carrying out was ended by a fault: of the regions that the plan visits the first so many were fetched, each once, in their order, and no others
pub record HasFetchedFirst (p : PlanView) (old new : TreeView) (count : ℕ) : Type 0 where
  pub visits : List plan.Span
  pub visits_are : AreVisits old.schema p (regions old) visits
  pub few : count ≤ length visits
  pub visited : List Placed
  pub there : AllByRecursion (Contains old.placed) visited
  pub regions_are : regions_in visited ≡ map (λ span. span.region) (take count visits)
  pub trace_is : new.trace.pages ≡ old.trace.pages ++ map (λ region. region.page) visited
  pub fetches_are : new.trace.fetches ≡ fetches_then old.trace.fetches count

-- ---- what a walk does

-- of some rows that are told of a sink took those that are chosen, after those that it took before
abbrev pub Hands : {K : Type 0} → (K → List Row → K → Type 0) → (Row → Bool) → K → K → (List Row → Type 0) → Type 0
Hands {K = K} HasTaken chosen old new Are = (before : K) (taken : List Row) → HasTaken before taken old
    → (rows : List Row) × HasTaken before (taken ++ filter chosen rows) new × Are rows

-- a region of the tree meets the boxes: some address of the span that begins with its first key lies in one of them
abbrev pub MeetsIn : TreeView → List Corners → Placed → Type 0
MeetsIn t boxes p = (span : Region) × Contains (spans_of t) span × (span.first ≡ p.region.first) × Meets boxes span

-- the regions of the tree that meet the boxes, in the order of their keys
abbrev pub AreMeeting : List Corners → TreeView → List Placed → Type 0
AreMeeting boxes t visited = AreThose (MeetsIn t boxes) t.placed visited

-- the regions that meet the boxes were read, each once, in the order of their keys; these are their rows
pub record HasWalked (boxes : List Corners) (old new : TreeView) (rows : List Row) : Type 0 where
  pub visited : List Placed
  pub visits : AreMeeting boxes old visited
  pub rows_are : rows ≡ rows_of (regions_in visited)
  pub trace_is : new.trace.pages ≡ old.trace.pages ++ map (λ p. p.page) visited
  pub fetches_are : new.trace.fetches ≡ fetches_then old.trace.fetches (length visited)

-- the first of them were read, each once, in the order of their keys, and no others
pub record HasWalkedFirst (boxes : List Corners) (old new : TreeView) : Type 0 where
  pub visited : List Placed
  pub left : List Placed
  pub visits : AreMeeting boxes old (visited ++ left)
  pub trace_is : new.trace.pages ≡ old.trace.pages ++ map (λ p. p.page) visited
  pub fetches_are : new.trace.fetches ≡ fetches_then old.trace.fetches (length visited)

-- the region of this span was read; these are its rows
pub record HasVisited (span : Region) (old new : TreeView) (rows : List Row) : Type 0 where
  pub region : Placed
  pub there : Contains old.placed region
  pub begins : region.region.first ≡ span.first
  pub noted : HasNoted region.page old new
  pub rows_are : rows ≡ region.region.rows

-- the first region later than one that meets the boxes was read, or there is none
abbrev pub HasTurned : List Corners → Option Region → TreeView → TreeView → Option Region → List Row → Type 0
HasTurned boxes after old new None rows = First (λ s. IsLater after s × Meets boxes s) (spans_of old) None × KeepsTrace old new × (rows ≡ [])
HasTurned boxes after old new (Some span) rows =
    First (λ s. IsLater after s × Meets boxes s) (spans_of old) (Some span) × HasVisited span old new rows

-- a turn was ended by a fault: no region was read, or the first region later than one that meets the boxes
abbrev pub HasTurnedSome : List Corners → Option Region → TreeView → TreeView → Type 0
HasTurnedSome boxes after old new = KeepsTrace old new ⊎ ((span : Region) × (rows : List Row) × HasTurned boxes after old new (Some span) rows)
