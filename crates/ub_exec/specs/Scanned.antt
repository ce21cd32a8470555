-- What a scan answers of any tree, also of one that isn't sound.
use Rattle.std.specs.Prelude.{◌≡◌, ◌≢◌, List, Some}
use Rattle.ub_exec.specs.Common.{Cell, IsInOrder, IsMeaning, IsPermutation, plan_of, PlanView, Row, Schema, TreeView}
use Rattle.ub_exec.specs.Answers.{IsSwept}
use Rattle.ub_exec.specs.Reading.{HasReadRows}

-- the plan is that of its query, which asks for some row, and sweeps no regions
abbrev pub IsScanOf : Schema → PlanView → Type 0
IsScanOf schema p = (p ≡ plan_of schema p.asked) × (p.asked.limit ≢ Some 0) × (¬ IsSwept p.kind)

-- no region that meets the boxes was passed over; where no number stands twice among their rows, the answer is what the query means on these rows
pub record IsOfRead (p : PlanView) (old new : TreeView) (cells : List (List Cell)) : Type 0 where
  pub rows : List Row
  pub read : HasReadRows p.covering.boxes old new rows
  pub means : (sorted : List Row) → IsPermutation sorted rows → IsInOrder sorted
      → IsMeaning (record { schema = old.schema; rows = sorted }) p.asked cells
