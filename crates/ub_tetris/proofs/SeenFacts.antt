-- What contracts see of a call of a sweep, of what its state answered.
use Rattle.std.proofs.Common.{◌≡◌, ◌≢◌, ◌∙◌, ◌∷◌, [], Bool, List, Option, Result, Err, IfOk, refl, sym, ap, subst}
use Rattle.std.specs.Option.{option_map}
use Rattle.std.specs.Prelude.{IsTrue, OnErr, OnOk, is_err}
use Rattle.ub_planning.specs.Plan.{PlanView}
use Rattle.ub_planning.specs.Visits.{Event}
use Rattle.ub_table.specs.declared.row.Row.{Row}
use Rattle.ub_tetris.proofs.BrokenFacts.{rests_seen}
use Rattle.ub_tetris.proofs.EffectFacts.{Sweeps-failed}
use Rattle.ub_tetris.proofs.HandFacts.{left_seen}
use Rattle.ub_tetris.proofs.TurnFacts.{never_swept, never_works, ok_seen, on_ok_seen, sweeps_seen}
use Rattle.ub_tetris.specs.Calls.{Gives, GivesRow, GivesValue, HandsAll}
use Rattle.ub_tetris.specs.Effects.{HasAnswered, HasFound, of_reading}
use Rattle.ub_tetris.specs.Sweep.{HandsOver, HasBroken, HasHandedOver, HasStepped, HasSteppedValue, IsSweeping, SweepView}
use Rattle.ub_tetris.specs.declared.fault.SweepFault.{SweepFault}
use Rattle.ub_tetris.specs.declared.fault.SweepFault.TheVariants as sweep
use Rattle.ub_tetris.specs.declared.state.State.{State}
use Rattle.ub_tetris.specs.inner.Turns.{view_by, view_of}
use Rattle.ub_tree.specs.View.{TreeView}
use Rattle.ub_tree.specs.declared.read_fault.ReadFault.{ReadFault}

-- ---- a sweep that has failed

pub Gives-failed : {A : Type 0} (Next : List Row → List Row → List Event → List Event → Type 0) (rows : A → List Row) (plan : PlanView) (s : SweepView) (t : TreeView) → IsTrue s.is_failed
    → Gives Next rows plan s s t t (Err sweep.Failed)
Gives-failed Next rows plan s t failed = record {
  next = λ given rest fetched unread of. never_swept plan t s given rest fetched unread failed of;
  broken = λ given rest fetched unread of. never_swept plan t s given rest fetched unread failed of;
  rests = λ working none empty. never_works s.is_failed failed working;
  answers = tt;
  effect = Sweeps-failed plan s t failed;
}

pub HandsAll-failed : {K : Type 0} (HasTaken : K → List Row → K → Type 0) (plan : PlanView) (s : SweepView) (t : TreeView) (sink : K) → IsTrue s.is_failed
    → HandsAll HasTaken plan s s t t sink sink (Err sweep.Failed)
HandsAll-failed HasTaken plan s t sink failed = record {
  rows = tt;
  broken = λ given rest fetched unread of. never_swept plan t s given rest fetched unread failed of;
  left = tt;
  effect = Sweeps-failed plan s t failed;
}

-- ---- one that hadn't

module _ (s new_s : State) (view : SweepView) (has_failed : Bool) (same : view ≡ view_of s) (plan : PlanView) (old new : TreeView) where
  gives_seen : {A : Type 0} (r : Result (Option A) SweepFault) → has_failed ≡ is_err r → (Next Seen : List Row → List Row → List Event → List Event → Type 0) (rows : A → List Row)
      → ((given rest : List Row) (fetched unread : List Event) → Next given rest fetched unread → Seen given rest fetched unread)
      → Gives Next rows plan (view_of s) (view_of new_s) old new r → Gives Seen rows plan view (view_by new_s has_failed) old new r
  gives_seen r is Next Seen rows turned gives = record {
    next = λ given rest fetched unread of.
        turned given rest fetched unread (gives.next given rest fetched unread (subst (λ (v : SweepView). IsSweeping plan old v given rest fetched unread) same of));
    broken = λ given rest fetched unread of. subst (λ (v : SweepView). OnErr r (HasBroken new v rest fetched unread)) (sym same)
        (gives.broken given rest fetched unread (subst (λ (v : SweepView). IsSweeping plan old v given rest fetched unread) same of));
    rests = λ working none empty. rests_seen r s new_s view has_failed old new same is
        (gives.rests refl (ap (λ (v : SweepView). v.awaited) (sym same) ∙ none) (ap (λ (v : SweepView). v.held) (sym same) ∙ empty));
    answers = ok_seen r s new_s view has_failed same is (λ v found. HasAnswered plan old view v (option_map rows found))
        (subst (λ (v : SweepView). IfOk r (λ found. HasAnswered plan old v (view_of new_s) (option_map rows found))) (sym same) gives.answers);
    effect = sweeps_seen r s new_s view has_failed same is plan old new gives.effect;
  }

  pub row_seen : (r : Result (Option Row) SweepFault) (answer : Result (Option Row) ReadFault) → r ≡ of_reading answer → has_failed ≡ is_err r
      → GivesRow plan (view_of s) (view_of new_s) old new (of_reading answer) → GivesRow plan view (view_by new_s has_failed) old new r
  row_seen r answer told is gives =
      gives_seen r is (λ given rest fetched unread. IfOk r (HasStepped plan new (view_of new_s) given rest fetched unread))
      (λ given rest fetched unread. IfOk r (HasStepped plan new (view_by new_s has_failed) given rest fetched unread)) (λ row. row ∷ [])
      (λ given rest fetched unread. ok_seen r s new_s view has_failed same is (λ v found. HasStepped plan new v given rest fetched unread found))
      (subst (λ (q : Result (Option Row) SweepFault). GivesRow plan (view_of s) (view_of new_s) old new q) (sym told) gives)

  pub value_seen : {A : Type 0} (r : Result (Option A) SweepFault) (answer : Result (Option A) ReadFault) (rows : A → List Row) → r ≡ of_reading answer → has_failed ≡ is_err r
      → GivesValue plan (view_of s) (view_of new_s) old new (of_reading answer) rows → GivesValue plan view (view_by new_s has_failed) old new r rows
  value_seen {A = A} r answer rows told is gives =
      gives_seen r is (λ given rest fetched unread. plan.asked.group ≢ [] → IfOk r (λ found. HasSteppedValue plan new (view_of new_s) given rest fetched unread (option_map rows found)))
      (λ given rest fetched unread. plan.asked.group ≢ [] → IfOk r (λ found. HasSteppedValue plan new (view_by new_s has_failed) given rest fetched unread (option_map rows found))) rows
      (λ given rest fetched unread steps some.
      ok_seen r s new_s view has_failed same is (λ v found. HasSteppedValue plan new v given rest fetched unread (option_map rows found)) (steps some))
      (subst (λ (q : Result (Option A) SweepFault). GivesValue plan (view_of s) (view_of new_s) old new q rows) (sym told) gives)

  pub hands_seen : {K : Type 0} (HasTaken : K → List Row → K → Type 0) (sink new_sink : K) (r : Result (Unit {0}) SweepFault) (answer : Result (Unit {0}) ReadFault) → r ≡ of_reading answer → has_failed ≡ is_err r
      → HandsAll HasTaken plan (view_of s) (view_of new_s) old new sink new_sink (of_reading answer) → HandsAll HasTaken plan view (view_by new_s has_failed) old new sink new_sink r
  hands_seen HasTaken sink new_sink r answer told is seen =
      let hands : HandsAll HasTaken plan (view_of s) (view_of new_s) old new sink new_sink r =
      subst (λ (q : Result (Unit {0}) SweepFault). HandsAll HasTaken plan (view_of s) (view_of new_s) old new sink new_sink q) (sym told) seen in
      record {
        rows = on_ok_seen r s new_s view has_failed same is
            (λ v. HandsOver HasTaken sink new_sink (λ rows. HasFound plan old view v rows
            × ((given rest : List Row) (fetched unread : List Event) → IsSweeping plan old view given rest fetched unread → HasHandedOver plan new fetched unread rows)))
            (subst (λ (v : SweepView). OnOk r (HandsOver HasTaken sink new_sink (λ rows. HasFound plan old v (view_of new_s) rows
            × ((given rest : List Row) (fetched unread : List Event) → IsSweeping plan old v given rest fetched unread → HasHandedOver plan new fetched unread rows)))) (sym same) hands.rows);
        broken = λ given rest fetched unread of. hands.broken given rest fetched unread (subst (λ (v : SweepView). IsSweeping plan old v given rest fetched unread) same of);
        left = left_seen r s new_s view has_failed same is hands.left;
        effect = sweeps_seen r s new_s view has_failed same is plan old new hands.effect;
      }
