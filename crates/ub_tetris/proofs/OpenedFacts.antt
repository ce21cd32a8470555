-- A stretch was opened in a turn: no rows came of it.
use Rattle.std.proofs.Common.{◌≡◌, List, [], Result, Ok, Err, OnOk, subst, sym}
use Rattle.std.proofs.lemmas.List.{append-nil}
use Rattle.ub_planning.specs.Plan.{PlanView}
use Rattle.ub_query.specs.declared.query.SortKey.{SortKey}
use Rattle.ub_table.specs.declared.row.Row.{Row}
use Rattle.ub_table.specs.declared.schema.Schema.{Schema}
use Rattle.ub_tetris.proofs.HeldFacts.{HoldsAlso-none}
use Rattle.ub_tetris.specs.Awaited.{AwaitedStretch}
use Rattle.ub_tetris.specs.Held.{HeldRow}
use Rattle.ub_tetris.specs.Sweep.{HandsOver, SweepView}
use Rattle.ub_tetris.specs.inner.Kept.{HoldsAlso}
use Rattle.ub_tetris.specs.inner.Turns.{HasComeTo}
use Rattle.ub_tree.specs.View.{TreeView}

-- those held are those that were
pub opened_holds : {T E : Type 0} (plan : PlanView) (t new : TreeView) (s new_s : SweepView) (next : AwaitedStretch) (schema : Schema) (keys : List SortKey) (r : Result T E)
    → new_s.held ≡ s.held → OnOk r (HasComeTo plan t new s new_s next [])
    → OnOk r ((rows : List Row) × HasComeTo plan t new s new_s next rows × HoldsAlso schema keys rows s.held new_s.held)
opened_holds plan t new s new_s next schema keys (Err e) same come = tt
opened_holds plan t new s new_s next schema keys (Ok x) same come =
    ([], come, subst (λ (held : List HeldRow). HoldsAlso schema keys [] s.held held) (sym same) (HoldsAlso-none schema keys s.held))

-- a sink took none
pub opened_hands : {K T E : Type 0} (HasTaken : K → List Row → K → Type 0) (sink : K) (Are : List Row → Type 0) (r : Result T E) → OnOk r (Are []) → OnOk r (HandsOver HasTaken sink sink Are)
opened_hands HasTaken sink Are (Err e) come = tt
opened_hands HasTaken sink Are (Ok x) come =
    ([], λ before taken has. subst (λ (rows : List Row). HasTaken before rows sink) (sym (append-nil taken)) has, come)
