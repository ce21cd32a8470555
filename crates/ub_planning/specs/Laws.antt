-- The laws of plans. Each is what the function of its name in `law` ensures. That a plan means what its query means is what
-- `plan` ensures (`MeansAs`).
use Rattle.std.specs.Prelude.{◌≡◌, ◌≢◌, ◌↔◌, ◌<◌, ◌⊎◌, ℕ, Bool, List, [], Some, slice_get, IsTrue, Contains}
use Rattle.std.specs.List.{filter}
use Rattle.std.specs.List.Sorted.{IsPermutation}
use Rattle.ub_bigmin.specs.Box.{Corners}
use Rattle.ub_boxes.specs.Boxes.{boxes_of}
use Rattle.ub_planning.specs.Plan.{plan_of, takes}
use Rattle.ub_planning.specs.Visits.{Span, Event, AreMeeting, AreEvents, AreVisits, fetched_rows, selected_rows}
use Rattle.ub_planning.specs.declared.planned.Kind.TheVariants.{Empty, Sweep}
use Rattle.ub_query.specs.Groups.{is_selected, selected}
use Rattle.ub_query.specs.Lead.{group_lead}
use Rattle.ub_query.specs.Meaning.{IsMeaning}
use Rattle.ub_query.specs.Posed.{IsGroupQuery}
use Rattle.ub_query.specs.Shape.{Asked}
use Rattle.ub_query.specs.declared.cell.Cell.{Cell}
use Rattle.ub_query.specs.declared.query.Item.TheVariants.{Column}
use Rattle.ub_region.specs.Regions.{AreRegions, AreTableRows, rows_of}
use Rattle.ub_table.specs.Region.{RegionRows}
use Rattle.ub_table.specs.Table.{Table, IsInOrder}
use Rattle.ub_table.specs.declared.row.Row.{Row}
use Rattle.ub_table.specs.declared.schema.Schema.{Schema}

-- a plan is empty just where there is no box or the limit is 0
abbrev pub PlansAreEmpty : Type 0
PlansAreEmpty = (schema : Schema) (q : Asked)
    → ((plan_of schema q).kind ≡ Empty) ↔ ((boxes_of schema q.filter ≡ []) ⊎ (q.limit ≡ Some 0))

-- a plan that isn't empty sweeps a dimension just where the query is one of rows whose first order key is that dimension, or has
-- a GROUP BY whose lead it is
abbrev pub SweepsAreLed : Type 0
SweepsAreLed = (schema : Schema) (q : Asked) (dim : ℕ) (is_descending : Bool) → (plan_of schema q).kind ≢ Empty
    → ((plan_of schema q).kind ≡ Sweep dim is_descending)
    ↔ ((dim < schema.dims)
    × (((¬ IsGroupQuery q) × (slice_get q.order 0 ≡ Some (record { item = Column dim; is_descending = is_descending })))
    ⊎ (group_lead q.group q.order ≡ Some (record { item = Column dim; is_descending = is_descending }))))

-- the regions of a table have its rows, in ascending order of number
abbrev pub RegionsHaveATable : Type 0
RegionsHaveATable = (schema : Schema) (next : ℕ) (regions : List RegionRows) → AreRegions schema next regions
    → (rows : List Row) × AreTableRows regions rows

-- the regions of a table have no two tables
abbrev pub RegionsHaveOneTable : Type 0
RegionsHaveOneTable = (regions : List RegionRows) (first second : List Row)
    → AreTableRows regions first → AreTableRows regions second → first ≡ second

-- unless the limit is 0, each selected row stands in a region that meets the plan's boxes
abbrev pub SelectedRowsAreMet : Type 0
SelectedRowsAreMet = (schema : Schema) (q : Asked) (next : ℕ) (regions : List RegionRows) (meeting : List Span) (row : Row)
    → q.limit ≢ Some 0 → AreRegions schema next regions
    → AreMeeting schema (plan_of schema q).covering.boxes regions meeting
    → Contains (rows_of regions) row → IsTrue (is_selected schema q.filter row) → Contains (fetched_rows meeting) row

-- unless the limit is 0, a plan takes of the rows of the regions those that the query selects
abbrev pub PlansTakeTheSelected : Type 0
PlansTakeTheSelected = (schema : Schema) (q : Asked) (next : ℕ) (regions : List RegionRows) (row : Row) → q.limit ≢ Some 0
    → AreRegions schema next regions → Contains (rows_of regions) row
    → takes schema (plan_of schema q) row ≡ is_selected schema q.filter row

-- unless the limit is 0, the selected rows of the regions that meet the plan's boxes are those of all regions, each as often
abbrev pub MeetingHoldTheSelected : Type 0
MeetingHoldTheSelected = (schema : Schema) (q : Asked) (next : ℕ) (regions : List RegionRows) (meeting : List Span)
    → q.limit ≢ Some 0 → AreRegions schema next regions
    → AreMeeting schema (plan_of schema q).covering.boxes regions meeting
    → IsPermutation (filter (is_selected schema q.filter) (fetched_rows meeting))
    (selected_rows schema (plan_of schema q) regions)

-- unless the limit is 0, the selected rows of the regions that meet the plan's boxes are those of the table, each as often
abbrev pub MeetingHoldTheTables : Type 0
MeetingHoldTheTables = (schema : Schema) (q : Asked) (next : ℕ) (regions : List RegionRows) (rows : List Row) (meeting : List Span)
    → q.limit ≢ Some 0 → AreRegions schema next regions → AreTableRows regions rows
    → AreMeeting schema (plan_of schema q).covering.boxes regions meeting
    → IsPermutation (filter (is_selected schema q.filter) (fetched_rows meeting))
    (selected (record { schema = schema; rows = rows }) q.filter)

-- where the limit is 0, the result has no row
abbrev pub LimitOfZeroMeansNothing : Type 0
LimitOfZeroMeansNothing = (table : Table) (q : Asked) (cells : List (List Cell)) → q.limit ≡ Some 0 → IsInOrder table.rows
    → IsMeaning table q cells ↔ (cells ≡ [])

-- the regions that meet some boxes are one list
abbrev pub MeetingAreOne : Type 0
MeetingAreOne = (schema : Schema) (boxes : List Corners) (regions : List RegionRows) (first second : List Span)
    → AreMeeting schema boxes regions first → AreMeeting schema boxes regions second → first ≡ second

-- a sweep comes to them in one order
abbrev pub EventsAreOne : Type 0
EventsAreOne = (schema : Schema) (boxes : List Corners) (dim : ℕ) (is_descending : Bool) (next : ℕ) (regions : List RegionRows)
    (first second : List Event) → AreRegions schema next regions
    → AreEvents schema boxes dim is_descending regions first → AreEvents schema boxes dim is_descending regions second
    → first ≡ second

-- each plan of a query has visits on the regions of each table
abbrev pub PlansHaveVisits : Type 0
PlansHaveVisits = (schema : Schema) (q : Asked) (next : ℕ) (regions : List RegionRows) → AreRegions schema next regions
    → (visits : List Span) × AreVisits schema (plan_of schema q) regions visits

-- each plan of a query has one list of visits on the regions of a table, and no other
abbrev pub VisitsAreOne : Type 0
VisitsAreOne = (schema : Schema) (q : Asked) (next : ℕ) (regions : List RegionRows) (first second : List Span)
    → AreRegions schema next regions → AreVisits schema (plan_of schema q) regions first
    → AreVisits schema (plan_of schema q) regions second → first ≡ second
