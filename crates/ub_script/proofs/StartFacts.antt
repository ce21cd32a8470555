-- What was fetched for a statement for which there is no reply.
use Rattle.std.proofs.Common.{◌≡◌, ◌≤◌, ℕ, Bool, false, List, Ok, Err, Result, length, refl, arith}
use Rattle.std.specs.Prelude.{OnErr}
use Rattle.ub_exec.specs.Answers.{IsReady, begun}
use Rattle.ub_exec.specs.Reading.{NotesPages}
use Rattle.ub_exec.specs.Stand.{Stand, IsStandOf}
use Rattle.ub_exec.specs.Visits.{HasFetched, HasFetchedFirst, fetches_then}
use Rattle.ub_planning.specs.Plan.{PlanView, plan_of}
use Rattle.ub_planning.specs.Visits.{Span, AreVisits}
use Rattle.ub_query.proofs.Laws.{queries_have_a_meaning}
use Rattle.ub_query.specs.Shape.{Asked}
use Rattle.ub_script.proofs.RowsFacts.{pages_on, ready_of}
use Rattle.ub_script.specs.Basis.{Basis, on_stand, over_any, AreSomeOf, IsBasisOf}
use Rattle.ub_script.specs.Loop.{Fetches}
use Rattle.ub_script.specs.Text.{answer_text, reply}
use Rattle.ub_tree.specs.View.{TreeView, regions}
use Rattle.ub_tree.specs.declared.read_fault.ReadFault.{ReadFault}

pub on_err : {T E : Type 0} (r : Result T E) (P : Type 0) → P → OnErr r P
on_err (Ok x) P p = tt
on_err (Err e) P p = p

pub if_started : {T E : Type 0} (r : Result T E) (P Q : Type 0) → (P → Q) → OnErr r P → OnErr r Q
if_started (Ok x) P Q f h = tt
if_started (Err e) P Q f h = f h

-- nothing was
pub starts_none : (is_explained : Bool) (basis : Basis) (q : Asked) (before after : ℕ) → after ≡ before → Fetches (AreSomeOf is_explained basis q) before after
starts_none is_explained (on_stand s) q before after same = (0, λ some. absurd (omega arith), same)
starts_none is_explained (over_any seen) q before after same = (0, λ some. absurd (omega arith), same)

-- the first so many of the visits of a query's plan were
starts_with : (old : TreeView) (after : ℕ) (s : Stand) (p : PlanView) (q : Asked) (visits : List Span) (count : ℕ) → IsStandOf old s → p ≡ plan_of old.schema q
    → AreVisits old.schema p (regions old) visits → count ≤ length visits → after ≡ fetches_then old.trace.fetches count
    → Fetches (AreSomeOf false (on_stand s) q) old.trace.fetches after
starts_with old after s p q visits count is planned are few fetched = (
  count,
  λ any.
      let (rows, meant) = queries_have_a_meaning s.table q is.rows_are.ascending in (
        reply (answer_text s.table.schema q rows (length visits)) (length visits) false 0,
        record {
          rows = rows;
          meant = meant;
          pages_are = pages_on old s p q visits (length visits) is planned are refl;
          text_is = refl;
          accepted = refl;
        },
        few,
      ),
  fetched,
)

-- where carrying out the plan was ended by a fault
pub starts_of_plan : {A : Type 0} (r : Result A ReadFault) (basis : Basis) (old new : TreeView) (p : PlanView) (q : Asked) → IsBasisOf old basis → p ≡ plan_of old.schema q
    → (IsReady old p → (count : ℕ) × HasFetchedFirst p (begun old) new count) → NotesPages (begun old) new r
    → Fetches (AreSomeOf false basis q) old.trace.fetches new.trace.fetches
starts_of_plan r (on_stand s) old new p q is planned first notes =
    let (count, by) = first (ready_of old p q is.sound planned) in
    starts_with old new.trace.fetches s p q by.visits count is planned by.visits_are by.few by.fetches_are
starts_of_plan r (over_any seen) old new p q is planned first notes = (length notes.noted, λ some. refl, notes.fetches_are)

-- and where it came to its end, but there is no text
pub starts_of_all : {A : Type 0} (r : Result A ReadFault) (basis : Basis) (old new : TreeView) (p : PlanView) (q : Asked) → IsBasisOf old basis → p ≡ plan_of old.schema q
    → (IsReady old p → HasFetched p (begun old) new) → NotesPages (begun old) new r → Fetches (AreSomeOf false basis q) old.trace.fetches new.trace.fetches
starts_of_all r (on_stand s) old new p q is planned all notes =
    let by = all (ready_of old p q is.sound planned) in
    starts_with old new.trace.fetches s p q by.visits (length by.visits) is planned by.visits_are (omega arith) by.fetches_are
starts_of_all r (over_any seen) old new p q is planned all notes = (length notes.noted, λ some. refl, notes.fetches_are)
