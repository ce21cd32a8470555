-- The laws of an EXPLAIN. Each is what the function of its name in `law` ensures.
use Rattle.std.specs.Prelude.{◌≡◌, ℕ, List, Contains, length}
use Rattle.ub_bigmin.specs.Box.{Corners}
use Rattle.ub_plan.specs.Explained.{IsExplained, sides}
use Rattle.ub_planning.specs.Plan.{PlanView, plan_of}
use Rattle.ub_query.specs.Shape.{Asked}
use Rattle.ub_table.specs.Region.{RegionRows}
use Rattle.ub_table.specs.declared.schema.Schema.{Schema}

-- an EXPLAIN of a plan has a text
abbrev pub ExplainsHaveAText : Type 0
ExplainsHaveAText = (schema : Schema) (plan : PlanView) (regions : List RegionRows)
    → (text : List ℕ) × IsExplained schema plan regions text

-- an EXPLAIN of a plan has no two texts
abbrev pub ExplainsHaveOneText : Type 0
ExplainsHaveOneText = (schema : Schema) (plan : PlanView) (regions : List RegionRows) (first second : List ℕ)
    → IsExplained schema plan regions first → IsExplained schema plan regions second → first ≡ second

-- where the plan is a query's, it names every dimension of each box
abbrev pub ExplainsNameEachDimension : Type 0
ExplainsNameEachDimension = (schema : Schema) (q : Asked) (b : Corners) → Contains (plan_of schema q).covering.boxes b
    → length (sides schema 0 schema.columns b.lo b.hi) ≡ schema.dims
