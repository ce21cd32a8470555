-- The selected rows of a table's regions have different numbers, and are those of the table.
use Rattle.std.proofs.Common.{◌≡◌, ◌≢◌, ◌<◌, ℕ, List, Some, filter, IsPermutation, ap, subst}
use Rattle.std.proofs.lemmas.List.Sorted.{IsPermutation-sym, IsPermutation-trans}
use Rattle.ub_bigmin.specs.Box.{Corners}
use Rattle.ub_planning.proofs.Laws.{meeting_hold_the_selected, meeting_hold_the_tables, Differ, rows_differ}
use Rattle.ub_planning.specs.Plan.{PlanView, plan_of}
use Rattle.ub_planning.specs.Visits.{AreMeeting, Span, fetched_rows, selected_rows}
use Rattle.ub_query.proofs.Laws.{Rising, Rising-filter, numbers-chain, numbers-never, before-chain, before-never}
use Rattle.ub_query.specs.Cells.{row_cell}
use Rattle.ub_query.specs.Groups.{is_selected, selected}
use Rattle.ub_query.specs.Order.{IsRowBefore}
use Rattle.ub_query.specs.declared.query.SortKey.{SortKey}
use Rattle.ub_region.specs.Regions.{AreRegions, AreTableRows, rows_of}
use Rattle.ub_table.specs.Region.{RegionRows}
use Rattle.ub_table.specs.declared.row.Row.{Row}
use Rattle.ub_table.specs.declared.schema.Schema.{Schema}

pub selected_differ : (schema : Schema) (plan : PlanView) (next : ℕ) (regions : List RegionRows) → AreRegions schema next regions → Rising (λ a b. Differ a b) (selected_rows schema plan regions)
selected_differ schema plan next regions are = Rising-filter (λ a b. Differ a b) (is_selected schema plan.asked.filter) (rows_of regions) (rows_differ (rows_of regions) are.distinct)

-- the order asked

pub asked-never : (schema : Schema) (keys : List SortKey) (a : Row) → ¬ (IsRowBefore schema keys a a)
asked-never schema keys a = before-never (row_cell schema) (λ a b. a.number < b.number) numbers-never keys a

pub asked-chain : (schema : Schema) (keys : List SortKey) (a b c : Row) → IsRowBefore schema keys a b → IsRowBefore schema keys b c → IsRowBefore schema keys a c
asked-chain schema keys a b c = before-chain (row_cell schema) (λ a b. a.number < b.number) numbers-chain keys a b c

-- the selected rows of the regions are those of the table
pub selected_of_table : (schema : Schema) (plan : PlanView) (next : ℕ) (regions : List RegionRows) (rows : List Row) (meeting : List Span) → plan ≡ plan_of schema plan.asked → plan.asked.limit ≢ Some 0
    → AreRegions schema next regions → AreTableRows regions rows → AreMeeting schema plan.covering.boxes regions meeting
    → IsPermutation (selected (record { schema = schema; rows = rows }) plan.asked.filter) (selected_rows schema plan regions)
selected_of_table schema plan next regions rows meeting planned limit are table those =
    let met : AreMeeting schema (plan_of schema plan.asked).covering.boxes regions meeting =
    subst (λ (boxes : List Corners). AreMeeting schema boxes regions meeting) (ap (λ (p : PlanView). p.covering.boxes) planned) those in
    let rows_met = filter (is_selected schema plan.asked.filter) (fetched_rows meeting) in
    IsPermutation-trans (selected (record { schema = schema; rows = rows }) plan.asked.filter) rows_met (selected_rows schema plan regions)
    (IsPermutation-sym rows_met (selected (record { schema = schema; rows = rows }) plan.asked.filter) (meeting_hold_the_tables schema plan.asked next regions rows meeting limit are table met))
    (meeting_hold_the_selected schema plan.asked next regions meeting limit are met)
