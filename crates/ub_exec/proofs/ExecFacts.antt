-- What is handed on of what carrying out a plan answers.
use Rattle.std.proofs.Common.{◌≡◌, ◌∙◌, ℕ, List, Result, Ok, Err, ap, sym}
use Rattle.std.specs.Result.{IsErrAnd}
use Rattle.ub_exec.specs.Calls.{Answers, ExecutesSwept}
use Rattle.ub_exec.specs.Visits.{HasFetchedFirst}
use Rattle.ub_exec.proofs.FirstFacts.{on_err}
use Rattle.ub_exec.proofs.RefusedFacts.{no_answer, no_result}
use Rattle.ub_planning.specs.Plan.{PlanView}
use Rattle.ub_query.specs.declared.cell.Cell.{Cell}
use Rattle.ub_tree.specs.View.{TreeView}
use Rattle.ub_tree.specs.declared.read_fault.ReadFault.{ReadFault}

-- where a fault ended it, no answer came
pub answers_err : {A : Type 0} (r : Result A ReadFault) (P : ReadFault → Type 0) (p : PlanView) (old start new : TreeView) (cells : A → List (List Cell)) → IsErrAnd r P
    → (count : ℕ) × HasFetchedFirst p start new count → Answers p old start new r cells
answers_err r P p old start new cells is first = record {
  rows = no_answer r P _ is;
  fetches = record { pages = no_result r P _ is; broken = on_err r _ first };
}

-- the same fault is told
pub same_err : {T U : Type 0} (r : Result T ReadFault) (e f : ReadFault) → IsErrAnd r (λ x. x ≡ e) → (q : Result U ReadFault) → q ≡ Err e → q ≡ Err f → r ≡ Err f
same_err (Ok x) e f is q at told = absurd is
same_err (Err x) e f is q at told =
    let one : x ≡ e = is in
    let two = sym at ∙ told in
    let three : e ≡ f = cc in
    ap Err (one ∙ three)

-- a sweep of a query of which more is known
pub swept_where : (V W : Type 0) (p : PlanView) (old new : TreeView) (r : Result (List (List Cell)) ReadFault) → ExecutesSwept W p old new r → (V → W) → ExecutesSwept V p old new r
swept_where V W p old new r executes of_w = record {
  done = λ ready kind of. executes.done ready kind (of_w of);
  shaped = executes.shaped;
  swept = executes.swept;
  notes = executes.notes;
  effect = executes.effect;
}
