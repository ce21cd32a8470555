-- What the calls of a sweep promise, one record for each. Those of its state promise the same of the view of a sweep that hasn't failed.
use Rattle.std.specs.Prelude.{◌≡◌, ◌≢◌, ◌∷◌, [], ℕ, Bool, false, IsTrue, List, Option, Result, Err, IfOk, OnErr, OnOk}
use Rattle.ub_tetris.specs.Common.{Event, Failed, PlanView, Row, SweepFault, Tree, TreeView}
use Rattle.std.specs.Option.{option_map}
use Rattle.ub_tetris.specs.Awaited.{IsWholeAwaited}
use Rattle.ub_tetris.specs.Effects.{Begins, HasAnswered, HasFound, Rests, Sweeps}
use Rattle.ub_tetris.specs.Sweep.{HandsOver, HasBegun, HasBroken, HasBrokenOff, HasHandedOver, HasStepped, HasSteppedValue, IsNoSweep, IsStarted}
use Rattle.ub_tetris.specs.Sweep.{IsSweepOf, IsSweeping, IsSwept, SweepView}

-- a sweep was to be begun by a plan, and this was answered: over a sound tree no row is given yet and no region fetched; over any it awaits the whole
pub record BeginsBy (plan : PlanView) (old new : TreeView) (result : Result SweepView SweepFault) : Type 0 where
  pub begun : (dim : ℕ) (is_descending : Bool) → IsSwept old plan dim is_descending → IfOk result (HasBegun plan new)
  pub started : IfOk result (IsStarted new)
  pub met : (dim : ℕ) (is_descending : Bool) → IsSweepOf old.schema plan dim is_descending → IfOk result
      (λ s. (s.dim ≡ dim) × (s.is_descending ≡ is_descending) × IsWholeAwaited plan.covering.boxes dim is_descending new s.awaited)
  pub other : IsNoSweep plan.kind → IfOk result (λ s. s.awaited ≡ [])
  pub failed : IsTrue old.is_failed → result ≡ Err (Tree Failed)
  pub effect : Begins old new result

-- a sweep was asked for more, and this was answered, with such rows: what that did over a sound tree, and over any; after the end nothing changes
pub record Gives {A : Type 0} (Next : List Row → List Row → List Event → List Event → Type 0) (rows : A → List Row)
    (plan : PlanView) (s new_s : SweepView) (old new : TreeView) (result : Result (Option A) SweepFault) : Type 0 where
  pub next : (given rest : List Row) (fetched unread : List Event) → IsSweeping plan old s given rest fetched unread → Next given rest fetched unread
  pub broken : (given rest : List Row) (fetched unread : List Event) → IsSweeping plan old s given rest fetched unread
      → OnErr result (HasBroken new s rest fetched unread)
  pub rests : s.is_failed ≡ false → s.awaited ≡ [] → s.held ≡ [] → Rests s new_s old new result
  pub answers : IfOk result (λ found. HasAnswered plan old s new_s (option_map rows found))
  pub effect : Sweeps plan s new_s old new result

-- it was asked for the next row
abbrev pub GivesRow : PlanView → SweepView → SweepView → TreeView → TreeView → Result (Option Row) SweepFault → Type 0
GivesRow plan s new_s old new result =
    Gives (λ given rest fetched unread. IfOk result (HasStepped plan new new_s given rest fetched unread))
    (λ row. row ∷ []) plan s new_s old new result

-- it was asked for the rows of the next value, which come in groups where the query has any
abbrev pub GivesValue : {A : Type 0} → PlanView → SweepView → SweepView → TreeView → TreeView → Result (Option A) SweepFault → (A → List Row) → Type 0
GivesValue plan s new_s old new result rows =
    Gives (λ given rest fetched unread. plan.asked.group ≢ [] → IfOk result
    (λ found. HasSteppedValue plan new new_s given rest fetched unread (option_map rows found)))
    rows plan s new_s old new result

-- a sink was to be handed the rows of all regions that are left, and this was answered: which rows it took, over any tree and over a sound one
pub record HandsAll {K : Type 0} (HasTaken : K → List Row → K → Type 0) (plan : PlanView) (s new_s : SweepView)
    (old new : TreeView) (sink new_sink : K) (result : Result (Unit {0}) SweepFault) : Type 0 where
  pub rows : OnOk result (HandsOver HasTaken sink new_sink
      (λ rows. HasFound plan old s new_s rows
      × ((given rest : List Row) (fetched unread : List Event) → IsSweeping plan old s given rest fetched unread
      → HasHandedOver plan new fetched unread rows)))
  pub broken : (given rest : List Row) (fetched unread : List Event) → IsSweeping plan old s given rest fetched unread
      → OnErr result (HasBrokenOff new fetched unread)
  pub left : OnOk result (new_s ≡ record s { awaited = [] })
  pub effect : Sweeps plan s new_s old new result
