-- By what the rows that a plan takes are told from the others of a page.
use Rattle.std.specs.Prelude.{◌≡◌, Bool, true, ◌&&◌, List, Option, length}
use Rattle.std.specs.List.{AllByRecursion}
use Rattle.ub_bigmin.specs.Box.{Corners}
use Rattle.ub_filter.specs.declared.choice.Choice.{Choice}
use Rattle.ub_filter.specs.declared.choice.Choice.TheVariants.{Boxes, Condition}
use Rattle.ub_planning.specs.Plan.{PlanView, is_in_any, residual_of}
use Rattle.ub_query.specs.Groups.{is_selected}
use Rattle.ub_query.specs.Shape.{Shape}
use Rattle.ub_table.specs.declared.row.Row.{Row}
use Rattle.ub_table.specs.declared.schema.Schema.{Schema}

-- the boxes can be asked where they have the dimensions of the table
abbrev pub IsFit : Schema → PlanView → Choice → Type 0
IsFit schema plan Boxes = AllByRecursion (λ b. length b.lo ≡ schema.dims) plan.covering.boxes
IsFit schema plan Condition = Unit {0}

-- whether a row can be taken, as far as its point tells
abbrev pub is_candidate : Choice → Schema → List Corners → Row → Bool
is_candidate Boxes schema boxes row = is_in_any schema boxes row
is_candidate Condition schema boxes row = true

-- what is asked of such a row
abbrev pub recheck_by : Choice → PlanView → Option Shape
recheck_by Boxes plan = residual_of plan
recheck_by Condition plan = plan.asked.filter

-- whether a row is taken: by the boxes it is where the plan takes it, by the condition where the query selects it
abbrev pub is_chosen : Choice → Schema → PlanView → Row → Bool
is_chosen choice schema plan row =
    is_candidate choice schema plan.covering.boxes row && is_selected schema (recheck_by choice plan) row
