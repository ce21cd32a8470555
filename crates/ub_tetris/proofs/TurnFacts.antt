-- What a call of a sweep ensures at a fault of its own, and what contracts see of a turn that its state did.
use Rattle.std.proofs.Common.{◌≡◌, ◌∙◌, Bool, false, List, Result, Ok, Err, IfOk, length, refl, sym, ap, subst}
use Rattle.std.proofs.lemmas.Bool.{true≢false}
use Rattle.std.specs.Prelude.{IsTrue, OnOk, is_err}
use Rattle.std.specs.Result.{IsErrAnd}
use Rattle.ub_planning.specs.Plan.{PlanView}
use Rattle.ub_planning.specs.Visits.{Event}
use Rattle.ub_query.specs.Posed.{IsPosed}
use Rattle.ub_query.specs.Shape.{Asked}
use Rattle.ub_table.specs.declared.row.Row.{Row}
use Rattle.ub_table.specs.declared.schema.Schema.{Schema}
use Rattle.ub_tetris.specs.Effects.{FailsOnce, Sweeps, of_read, of_reading}
use Rattle.ub_tetris.specs.Sweep.{IsSweeping, SweepView}
use Rattle.ub_tetris.specs.declared.fault.SweepFault.{SweepFault}
use Rattle.ub_tetris.specs.declared.fault.SweepFault.TheVariants as sweep
use Rattle.ub_tetris.specs.declared.state.State.{State}
use Rattle.ub_tetris.specs.inner.Turns.{view_by, view_of}
use Rattle.ub_tree.specs.View.{TreeView}
use Rattle.ub_tree.specs.declared.read_fault.ReadFault.{ReadFault}

-- ---- a fault handed on

pub refused_none : {T E : Type 0} (Q : T → Type 0) (r : Result T E) (P : E → Type 0) → IsErrAnd r P → IfOk r Q
refused_none Q (Ok x) P is = absurd is
refused_none Q (Err e) P is = tt

-- a fault that the state hands on, as the sweep answers it
pub as_err : {T : Type 0} (r : Result T ReadFault) (e : ReadFault) → IsErrAnd r (λ f. f ≡ e) → (P : Result T SweepFault → Type 0) → P (Err (of_read e)) → P (of_reading r)
as_err (Ok x) e is P holds = absurd is
as_err (Err f) e is P holds = subst (λ (x : ReadFault). P (Err (of_read x))) (sym is) holds

pub never_ok : {T E X : Type 0} (r : Result T E) (x : T) (P : E → Type 0) → IsErrAnd r P → r ≡ Ok x → X
never_ok (Ok y) x P is same = absurd is
never_ok (Err e) x P is same = absurd cc

-- a query is as posed over the same schema
pub posed_still : (s t : Schema) (q : Asked) → s ≡ t → IsPosed (length t.columns) q → IsPosed (length s.columns) q
posed_still s t q same posed = subst (λ (x : Schema). IsPosed (length x.columns) q) (sym same) posed

-- ---- a sweep that has failed

pub never_swept : {X : Type 0} (plan : PlanView) (t : TreeView) (s : SweepView) (given rest : List Row) (fetched unread : List Event) → IsTrue s.is_failed
    → IsSweeping plan t s given rest fetched unread → X
never_swept plan t s given rest fetched unread failed of = absurd (true≢false (sym failed ∙ of.working))

pub never_works : {X : Type 0} (is_failed : Bool) → IsTrue is_failed → is_failed ≡ false → X
never_works is_failed failed working = absurd (true≢false (sym failed ∙ working))

pub FailsOnce-failed : {T : Type 0} (s : SweepView) (t : TreeView) → IsTrue s.is_failed → FailsOnce {A = T} s s t t (Err sweep.Failed)
FailsOnce-failed s t failed = record { fails = failed; works = tt; stays = λ _. (refl, refl, refl) }

-- ---- a turn of one that hadn't

module _ {T : Type 0} (r : Result T SweepFault) (s new_s : State) (view : SweepView) (has_failed : Bool) (same : view ≡ view_of s) (is : has_failed ≡ is_err r) where
  pub ok_seen : (P : SweepView → T → Type 0) → IfOk r (P (view_of new_s)) → IfOk r (P (view_by new_s has_failed))
  ok_seen P holds = rw is (seen r holds)
    where
      seen : (r : Result T SweepFault) → IfOk r (P (view_of new_s)) → IfOk r (P (view_by new_s (is_err r)))
      seen (Ok x) holds = holds
      seen (Err e) holds = tt

  pub on_ok_seen : (P : SweepView → Type 0) → OnOk r (P (view_of new_s)) → OnOk r (P (view_by new_s has_failed))
  on_ok_seen P holds = rw is (seen r holds)
    where
      seen : (r : Result T SweepFault) → OnOk r (P (view_of new_s)) → OnOk r (P (view_by new_s (is_err r)))
      seen (Ok x) holds = holds
      seen (Err e) holds = tt

  pub once_seen : (old new : TreeView) → FailsOnce view (view_by new_s has_failed) old new r
  once_seen old new = rw is (once r)
    where
      once : (r : Result T SweepFault) → FailsOnce view (view_by new_s (is_err r)) old new r
      once (Ok x) = record { fails = tt; works = refl; stays = λ failed. absurd (true≢false (sym failed ∙ ap (λ (v : SweepView). v.is_failed) same)) }
      once (Err e) = record { fails = refl; works = tt; stays = λ failed. absurd (true≢false (sym failed ∙ ap (λ (v : SweepView). v.is_failed) same)) }

  pub sweeps_seen : (plan : PlanView) (old new : TreeView) → Sweeps plan (view_of s) (view_of new_s) old new r → Sweeps plan view (view_by new_s has_failed) old new r
  sweeps_seen plan old new swept =
      subst (λ (v : SweepView). Sweeps plan v (view_by new_s has_failed) old new r) (sym same)
      (record {
        noted = swept.noted;
        same = swept.same;
        trace_is = swept.trace_is;
        fetches_are = swept.fetches_are;
        come = swept.come;
        ahead = swept.ahead;
        left = swept.left;
        ordered = swept.ordered;
        still = swept.still;
        once = swept.once;
        taken = swept.taken;
        refused = swept.refused;
        faults = swept.faults;
        stretches = swept.stretches;
      })
