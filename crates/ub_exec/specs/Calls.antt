-- What the calls that carry out a plan promise, one record for each, and what those below them do.
use Rattle.std.specs.Prelude.{◌≡◌, ℕ, false, IsTrue, List, Result, Ok, Err, IfOk, OnErr, OnOk, length, take}
use Rattle.ub_exec.specs.Common.{Cell, Failed, IsShaped, PlanView, ReadFault, ReadsTree, Tree, TreeView}
use Rattle.ub_exec.specs.Answers.{IsAnswer, IsReady, IsSwept, begun}
use Rattle.ub_exec.specs.Deleting.{Deletes, IsDeletionOf, ReadsFirst}
use Rattle.ub_exec.specs.Reading.{CarriesOut, NotesPages, ReadsSwept}
use Rattle.ub_exec.specs.Scanned.{IsOfRead, IsScanOf}
use Rattle.ub_exec.specs.Stand.{Stand, IsStandOf, selected_of, without_rows, without_selected}
use Rattle.ub_exec.specs.Visits.{HasFetched, HasFetchedFirst}

-- the regions that the plan visits were fetched, since the tree was this one; where a fault ended that, the first of them
pub record FetchesVisits {A : Type 0} (p : PlanView) (start new : TreeView) (result : Result A ReadFault) : Type 0 where
  pub pages : OnOk result (HasFetched p start new)
  pub broken : OnErr result ((count : ℕ) × HasFetchedFirst p start new count)

-- done, over a sound tree and by its plan: where an answer came, its cells are what the query means, and the visits were fetched
pub record Answers {A : Type 0} (p : PlanView) (old start new : TreeView) (result : Result A ReadFault) (cells : A → List (List Cell)) : Type 0 where
  pub rows : IfOk result (λ a. IsAnswer old p.asked (cells a))
  pub fetches : FetchesVisits p start new result

-- a plan was to be carried out over a tree, and this was answered, which has such cells: what that did over a sound tree, and what over any tree
pub record Executes {A : Type 0} (p : PlanView) (old new : TreeView) (result : Result A ReadFault) (cells : A → List (List Cell)) : Type 0 where
  pub done : IsReady old p → Answers p old (begun old) new result cells
  pub shaped : IfOk result (λ a. IsShaped p.asked (cells a))
  pub scanned : IsScanOf old.schema p → IfOk result (λ a. IsOfRead p (begun old) new (cells a))
  pub failed : IsTrue old.is_failed → result ≡ Err (Tree Failed)
  pub reads : CarriesOut p (begun old) new (λ a. length (cells a)) result
  pub effect : ReadsTree old new result

-- the same by a sweep, where that is what the plan asks for, and where this holds of its query
pub record ExecutesSwept (Of : Type 0) (p : PlanView) (old new : TreeView) (result : Result (List (List Cell)) ReadFault) : Type 0 where
  pub done : IsReady old p → IsSwept p.kind → Of → Answers p old (begun old) new result (λ cells. cells)
  pub shaped : IfOk result (IsShaped p.asked)
  pub swept : ReadsSwept p (begun old) new (λ cells. length cells) result
  pub notes : NotesPages (begun old) new result
  pub effect : ReadsTree old new result

-- the rows that a query selects were to be taken out of a tree by its plan, and this was answered: what that did to a sound tree, and to any tree
pub record DeletesBy (p : PlanView) (old new : TreeView) (result : Result ℕ ReadFault) : Type 0 where
  pub deleted : (s : Stand) → IsStandOf old s → IsDeletionOf old p
      → IfOk result (λ count. (count ≡ length (selected_of p.asked s)) × IsStandOf new (without_selected p.asked s))
  pub stopped : (s : Stand) → IsStandOf old s → IsDeletionOf old p
      → OnErr result (new.is_failed ≡ false → (j : ℕ) × IsStandOf new (without_rows (take j (selected_of p.asked s)) s))
  pub fetches : IsDeletionOf old p → FetchesVisits p (begun old) new result
  pub untouched : result ≡ Ok 0 → new ≡ record old { trace = new.trace }
  pub reads : ReadsFirst p (begun old) new result
  pub effect : Deletes old new result
