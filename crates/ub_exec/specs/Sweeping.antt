-- What a sweep of rows is given, and what comes of it.
use Rattle.std.specs.Prelude.{◌≡◌, [], ℕ, Bool, List}
use Rattle.ub_exec.specs.Common.{Cell, HasBegun, IsShaped, IsStarted, IsSweepOf, IsWholeAwaited, PlanView, SweepView, TreeView}
use Rattle.ub_exec.specs.Answers.{IsAnswer, begun}
use Rattle.ub_exec.specs.Visits.{HasFetched}

-- it was begun by the plan, over any tree: no page is in the trace, and it awaits the whole tree, or nothing where no address of it is in the boxes
pub record IsBegun (p : PlanView) (t : TreeView) (s : SweepView) : Type 0 where
  pub fresh : t ≡ begun t
  pub started : IsStarted t s
  pub met : (dim : ℕ) (is_descending : Bool) → IsSweepOf t.schema p dim is_descending
      → (s.dim ≡ dim) × (s.is_descending ≡ is_descending) × IsWholeAwaited p.covering.boxes dim is_descending t s.awaited

-- the rows of a sweep that was begun were put in, until the limit was filled or none was left: over a sound tree they are what the query means
pub record Fills (p : PlanView) (old new : TreeView) (s : SweepView) (cells : List (List Cell)) : Type 0 where
  pub shaped : IsShaped p.asked cells
  pub answers : HasBegun p old s → p.asked.group ≡ [] → IsAnswer old p.asked cells
  pub fetches : HasBegun p old s → p.asked.group ≡ [] → HasFetched p old new
