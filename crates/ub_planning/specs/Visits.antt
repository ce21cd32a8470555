-- The regions that a plan fetches: a scan those that meet its boxes, and a sweep (Tetris: Markl, Zirkel and Bayer 1999) of them
-- those that it comes to.
use Rattle.std.specs.Prelude.{◌≡◌, ◌≤◌, ◌<◌, ◌==◌, nat_lt, not, ℕ, Bool, true, false, if◌then◌else◌, List, [], ◌∷◌, ◌⊎◌, Option, Some, None, length, map, slice_index}
use Rattle.std.specs.List.{All, AllAdjacentBelow, filter, flat_map}
use Rattle.std.specs.List.Sorted.{IsPermutation}
use Rattle.ub_bigmin.specs.Box.{Corners, HoldsAny, IsValueInSpan}
use Rattle.ub_bigmin.specs.Extremes.{Least, Greatest}
use Rattle.ub_planning.specs.Plan.{PlanView}
use Rattle.ub_planning.specs.declared.planned.Kind.{Kind}
use Rattle.ub_planning.specs.declared.planned.Kind.TheVariants.{Empty, Scan, Sweep}
use Rattle.ub_query.specs.Cells.{Group}
use Rattle.ub_query.specs.Groups.{is_selected, selected}
use Rattle.ub_query.specs.Lead.{AreGroupsInOrder, swept_order}
use Rattle.ub_query.specs.Meaning.{limited}
use Rattle.ub_query.specs.Order.{IsArrangement, IsRowBefore}
use Rattle.ub_region.specs.Regions.{AreTableRows, firsts_of, rows_of}
use Rattle.ub_region.specs.Those.{AreThose}
use Rattle.ub_region.specs.Spans.{span_end}
use Rattle.ub_table.specs.Keys.{IsBefore}
use Rattle.ub_table.specs.Region.{RegionRows}
use Rattle.ub_table.specs.declared.row.Row.{Row}
use Rattle.ub_table.specs.declared.schema.Schema.{Schema}
use Rattle.ub_zaddr.specs.Address.{last_address}

-- a region and its span, which ends where the next region begins
pub record Span : Type 0 where
  pub region : RegionRows
  pub from : ℕ
  pub to : ℕ

-- the spans of some regions in order, in a space that ends with this address
abbrev pub spans_up_to : ℕ → List RegionRows → List Span
spans_up_to last [] = []
spans_up_to last (region ∷ regions) =
    record { region = region; from = region.first.z; to = span_end last (firsts_of regions) } ∷ spans_up_to last regions

-- the spans of a table's regions
abbrev pub spans_of : Schema → List RegionRows → List Span
spans_of schema regions = spans_up_to (last_address schema.dims) regions

-- some address from one to another lies in one of the boxes
abbrev pub Meets : List Corners → ℕ → ℕ → Type 0
Meets boxes from to = (z : ℕ) × HoldsAny boxes z × (from ≤ z) × (z ≤ to)

-- the regions that meet some boxes, in the order of their first keys, each once
abbrev pub AreMeeting : Schema → List Corners → List RegionRows → List Span → Type 0
AreMeeting schema boxes regions meeting = AreThose (λ span. Meets boxes span.from span.to) (spans_of schema regions) meeting

-- the rows of some spans' regions, one region after the other
abbrev pub fetched_rows : List Span → List Row
fetched_rows visits = flat_map (λ span. span.region.rows) visits

-- ---- the order of a sweep in a dimension, up or down

-- a coordinate before another along the sweep
abbrev pub IsAlong : Bool → ℕ → ℕ → Type 0
IsAlong false a b = a < b
IsAlong true a b = b < a

-- the event value of a region: the first coordinate along the sweep among the points of the boxes in its span
abbrev pub IsEventValue : List Corners → ℕ → Bool → Span → ℕ → Type 0
IsEventValue boxes dim false span v = Least (IsValueInSpan boxes span.from span.to dim) (Some v)
IsEventValue boxes dim true span v = Greatest (IsValueInSpan boxes span.from span.to dim) (Some v)

-- a region to which a sweep comes, and its event value
pub record Event : Type 0 where
  pub value : ℕ
  pub span : Span

-- by event value along the sweep, and where these are equal, by first key
abbrev pub IsEventBefore : Bool → Event → Event → Type 0
IsEventBefore is_descending a b =
    IsAlong is_descending a.value b.value
    ⊎ ((a.value ≡ b.value) × IsBefore a.span.region.first b.span.region.first)

-- the regions that meet some boxes, each with its event value, in the order in which a sweep comes to them
pub record AreEvents (schema : Schema) (boxes : List Corners) (dim : ℕ) (is_descending : Bool) (regions : List RegionRows) (events : List Event) : Type 0 where
  pub meeting : List Span
  pub meeting_are : AreMeeting schema boxes regions meeting
  pub same : IsPermutation meeting (map (λ event. event.span) events)
  pub values : All (λ event. IsEventValue boxes dim is_descending event.span event.value) events
  pub ordered : AllAdjacentBelow (IsEventBefore is_descending) events (length events)

-- ---- how far a sweep goes

-- the selected rows of some regions
abbrev pub selected_rows : Schema → PlanView → List RegionRows → List Row
selected_rows schema plan regions = filter (is_selected schema plan.asked.filter) (rows_of regions)

-- these rows, in the order in which a sweep gives them
abbrev pub AreArranged : Schema → PlanView → List Row → List Row → Type 0
AreArranged schema plan rows arranged =
    IsArrangement (IsRowBefore schema (swept_order plan.asked.group plan.asked.order)) rows arranged

-- whether there are as many as the limit asks for
abbrev pub is_filled : Option ℕ → ℕ → Bool
is_filled None count = false
is_filled (Some n) count = n == count

-- whether a coordinate lies past another along the sweep
abbrev pub is_past : Bool → ℕ → ℕ → Bool
is_past false last value = nat_lt last value
is_past true last value = nat_lt value last

-- the last of some coordinates
abbrev pub last_of : List ℕ → ℕ
last_of [] = 0
last_of (value ∷ []) = value
last_of (value ∷ other ∷ values) = last_of (other ∷ values)

-- the regions that a sweep comes to that gives rows, or groups, with these coordinates: all of them, or where the limit is
-- filled those that aren't past the last one
abbrev pub reached : Bool → Option ℕ → List ℕ → List Event → List Event
reached is_descending limit given events =
    if is_filled limit (length given)
    then filter (λ event. not (is_past is_descending (last_of given) event.value)) events
    else events

-- the coordinates of some rows in a dimension
abbrev pub coordinates : ℕ → List Row → List ℕ
coordinates dim rows = map (λ row. slice_index row.dims dim) rows

-- the visits of a sweep of rows: the regions that it comes to, where it gives the rows that the query asks for
pub record AreSweepVisits (schema : Schema) (plan : PlanView) (dim : ℕ) (is_descending : Bool) (regions : List RegionRows) (visits : List Span) : Type 0 where
  pub events : List Event
  pub events_are : AreEvents schema plan.covering.boxes dim is_descending regions events
  pub arranged : List Row
  pub arranged_are : AreArranged schema plan (selected_rows schema plan regions) arranged
  pub visits_are : visits ≡ map (λ event. event.span)
      (reached is_descending plan.asked.limit (coordinates dim (limited plan.asked.limit arranged)) events)

-- the coordinate in a dimension that the rows of a group share, where it is the lead
abbrev pub lead_coordinate : ℕ → Group → ℕ
lead_coordinate dim group = last_of (coordinates dim group.rows)

-- the visits of a sweep of groups: the regions that it comes to, where it gives the groups that the query asks for
pub record AreGroupVisits (schema : Schema) (plan : PlanView) (dim : ℕ) (is_descending : Bool) (regions : List RegionRows) (visits : List Span) : Type 0 where
  pub events : List Event
  pub events_are : AreEvents schema plan.covering.boxes dim is_descending regions events
  pub rows : List Row
  pub rows_are : AreTableRows regions rows
  pub arranged : List Group
  pub arranged_are : AreGroupsInOrder schema plan.asked
      (selected (record { schema = schema; rows = rows }) plan.asked.filter) arranged
  pub visits_are : visits ≡ map (λ event. event.span)
      (reached is_descending plan.asked.limit (map (lead_coordinate dim) (limited plan.asked.limit arranged)) events)

-- the visits of a sweep, by the columns of GROUP BY: of rows where there is none, else of groups
abbrev pub AreSweptVisits : List ℕ → Schema → PlanView → ℕ → Bool → List RegionRows → List Span → Type 0
AreSweptVisits [] schema plan dim is_descending regions visits = AreSweepVisits schema plan dim is_descending regions visits
AreSweptVisits (column ∷ group) schema plan dim is_descending regions visits =
    AreGroupVisits schema plan dim is_descending regions visits

-- the visits of a plan: none of an empty one; of a scan the regions that meet its boxes, in the order of their first keys; of
-- a sweep those that it comes to, in the order in which it comes to them; each once
abbrev pub AreVisitsBy : Kind → Schema → PlanView → List RegionRows → List Span → Type 0
AreVisitsBy Empty schema plan regions visits = visits ≡ []
AreVisitsBy Scan schema plan regions visits = AreMeeting schema plan.covering.boxes regions visits
AreVisitsBy (Sweep dim is_descending) schema plan regions visits =
    AreSweptVisits plan.asked.group schema plan dim is_descending regions visits

abbrev pub AreVisits : Schema → PlanView → List RegionRows → List Span → Type 0
AreVisits schema plan regions visits = AreVisitsBy plan.kind schema plan regions visits
