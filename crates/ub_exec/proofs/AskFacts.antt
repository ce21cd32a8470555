-- What a call of a sweep answers is what a call answers that reads the tree.
use Rattle.std.proofs.Common.{◌≡◌, List, Option, Ok, Err, refl, ap, subst, sym}
use Rattle.ub_exec.proofs.ComeFacts.{BreaksOff, ComesOn, ComesToAll, IsAtWork, breaks_off, comes_on, comes_to_all}
use Rattle.ub_exec.proofs.KeptFacts.{sweeps_reads}
use Rattle.ub_exec.proofs.NotedFacts.{broken_notes, sweeps_notes}
use Rattle.ub_exec.specs.Answers.{begun}
use Rattle.ub_exec.specs.Reading.{NotesPages}
use Rattle.ub_planning.specs.Plan.{PlanView}
use Rattle.ub_planning.specs.Visits.{Event}
use Rattle.ub_table.specs.declared.row.Row.{Row}
use Rattle.ub_tetris.specs.Calls.{Gives, HandsAll}
use Rattle.ub_tetris.specs.Effects.{Begins, FailsOnce, Sweeps, as_read}
use Rattle.ub_tetris.specs.Sweep.{SweepView}
use Rattle.ub_tetris.specs.declared.fault.SweepFault.{SweepFault}
use Rattle.ub_tree.specs.Reading.{ReadsTree}
use Rattle.ub_tree.specs.View.{TreeView, KeepsTrace}
use Rattle.ub_tree.specs.declared.read_fault.ReadFault.{ReadFault}

-- ---- a sweep was begun

pub begun_ok : {A : Type 0} (x : A) (old new : TreeView) → Begins old new (Ok x) → new ≡ begun old
begun_ok x old new begins = begins.same

-- or that was refused: no page is noted
pub begun_err : {A : Type 0} (e : SweepFault) (old new : TreeView) → Begins {A = A} old new (Err e) → KeepsTrace (begun old) new
begun_err e old new begins = ap (λ (t : TreeView). t.trace) begins.same

-- ---- one that hasn't failed was asked for more

pub record Came {A : Type 0} (p : PlanView) (s new_s : SweepView) (old new : TreeView) (found : Option A) : Type 0 where
  pub works : IsAtWork new new_s
  pub comes : ComesOn p s new_s old new found
  pub notes : NotesPages old new (Ok found)
  pub effect : ReadsTree old new (Ok found)

pub came : {A : Type 0} (Next : List Row → List Row → List Event → List Event → Type 0) (rows : A → List Row) (plan : PlanView) (found : Option A) (s new_s : SweepView) (old new : TreeView) → IsAtWork old s
    → Gives Next rows plan s new_s old new (Ok found) → FailsOnce s new_s old new (Ok found) → Came plan s new_s old new found
came Next rows plan found s new_s old new works gives once = record {
  works = (once.works, gives.effect.stretches works.1);
  comes = comes_on rows plan found s new_s old new works.1 gives.effect gives.answers;
  notes = sweeps_notes plan found found s new_s old new works.1 gives.effect;
  effect = record { same = gives.effect.same; faults = tt };
}

-- or for all that is left
pub record CameToAll (p : PlanView) (s : SweepView) (old new : TreeView) : Type 0 where
  pub comes : ComesToAll p s old new
  pub notes : NotesPages {A = Unit {0}} old new (Ok tt)
  pub effect : ReadsTree {A = Unit {0}} old new (Ok tt)

pub came_to_all : {K : Type 0} (HasTaken : K → List Row → K → Type 0) (plan : PlanView) (s new_s : SweepView) (old new : TreeView) (sink new_sink : K) → IsAtWork old s
    → HandsAll HasTaken plan s new_s old new sink new_sink (Ok tt) → CameToAll plan s old new
came_to_all HasTaken plan s new_s old new sink new_sink works hands = record {
  comes = comes_to_all plan s new_s old new works.1 hands.effect hands.left;
  notes = sweeps_notes plan tt tt s new_s old new works.1 hands.effect;
  effect = record { same = hands.effect.same; faults = tt };
}

-- and a fault ended that
pub record Broke (A : Type 0) (p : PlanView) (s : SweepView) (old new : TreeView) (fault : ReadFault) : Type 0 where
  pub breaks : BreaksOff p s old new
  pub notes : NotesPages {A = A} old new (Err fault)
  pub effect : ReadsTree {A = A} old new (Err fault)

pub broke : (A : Type 0) (plan : PlanView) (e : SweepFault) (fault : ReadFault) (s new_s : SweepView) (old new : TreeView) → fault ≡ as_read e → IsAtWork old s
    → Sweeps {A = A} plan s new_s old new (Err e) → Broke A plan s old new fault
broke A plan e fault s new_s old new is works sweeps = subst (λ (f : ReadFault). Broke A plan s old new f) (sym is) (record {
  breaks = breaks_off plan (Err e) s new_s old new works.1 sweeps;
  notes = broken_notes plan (Err (as_read e)) (λ x. x ≡ as_read e) e s new_s old new refl sweeps;
  effect = sweeps_reads plan (Err (as_read e)) e s new_s old new refl works.0 works.1 sweeps;
})
