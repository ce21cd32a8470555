-- The meaning of a plan on a list of regions.
use Rattle.std.specs.Prelude.{◌↔◌, ℕ, List, None}
use Rattle.std.specs.List.{filter}
use Rattle.std.specs.List.Sorted.{IsPermutation}
use Rattle.ub_planning.specs.Plan.{PlanView, takes}
use Rattle.ub_planning.specs.Visits.{Span, AreMeeting, fetched_rows}
use Rattle.ub_query.specs.Meaning.{IsMeaning}
use Rattle.ub_query.specs.Shape.{Asked}
use Rattle.ub_query.specs.declared.cell.Cell.{Cell}
use Rattle.ub_region.specs.Regions.{AreRegions, AreTableRows}
use Rattle.ub_table.specs.Region.{RegionRows}
use Rattle.ub_table.specs.Table.{IsInOrder}
use Rattle.ub_table.specs.declared.row.Row.{Row}
use Rattle.ub_table.specs.declared.schema.Schema.{Schema}

-- the rows of the regions that meet the boxes that the plan takes, in order of row number
pub record AreChosen (schema : Schema) (plan : PlanView) (regions : List RegionRows) (rows : List Row) : Type 0 where
  pub meeting : List Span
  pub meets : AreMeeting schema plan.covering.boxes regions meeting
  pub taken : IsPermutation (filter (takes schema plan) (fetched_rows meeting)) rows
  pub ascending : IsInOrder rows

-- what a plan means on a list of regions: what its query, without its condition, means on the rows that are chosen
pub record IsPlanMeaning (schema : Schema) (plan : PlanView) (regions : List RegionRows) (cells : List (List Cell)) : Type 0 where
  pub rows : List Row
  pub chosen : AreChosen schema plan regions rows
  pub means : IsMeaning (record { schema = schema; rows = rows }) (record plan.asked { filter = None }) cells

-- a plan means what a query means: on the regions of each table, what the query means on the table
abbrev pub MeansAs : Schema → PlanView → Asked → Type 0
MeansAs schema plan q = (next : ℕ) (regions : List RegionRows) (rows : List Row) (cells : List (List Cell))
    → AreRegions schema next regions → AreTableRows regions rows
    → IsPlanMeaning schema plan regions cells ↔ IsMeaning (record { schema = schema; rows = rows }) q cells
