-- Each plan has visits on the regions of each table, and only one list of them.
use Rattle.std.proofs.Common.{◌≡◌, ◌<◌, ℕ, Bool, List, [], ◌∷◌, map, ◌⊎◌, refl, sym, ap, ◌∙◌, subst}
use Rattle.ub_planning.proofs.EventFacts.{events_of, events_one}
use Rattle.ub_planning.proofs.FoundFacts.{meeting_of}
use Rattle.ub_planning.proofs.MeaningFacts.{table_of}
use Rattle.ub_planning.proofs.TableFacts.{regions_have_a_table, regions_have_one_table}
use Rattle.ub_planning.proofs.ThoseFacts.{those_one}
use Rattle.ub_planning.proofs.VisitFacts.{Differ, rows_differ}
use Rattle.ub_planning.specs.Plan.{PlanView}
use Rattle.ub_planning.specs.Visits.{Span, Event, Meets, AreArranged, AreGroupVisits, AreSweepVisits, AreSweptVisits, AreVisitsBy, coordinates, lead_coordinate, reached, selected_rows, spans_of}
use Rattle.ub_planning.specs.declared.planned.Kind.{Kind}
use Rattle.ub_planning.specs.declared.planned.Kind.TheVariants.{Empty, Scan, Sweep}
use Rattle.ub_query.proofs.Laws.{Rising, Rising-both, Rising-filter, all_from_contains, an_arrangement, groups_have_an_arrangement, groups_have_one_arrangement, numbers-chain, rows_fall_into_groups, rows_have_one_arrangement, AreAlike, before-chain, before-sides}
use Rattle.ub_query.specs.Cells.{Group, row_cell}
use Rattle.ub_query.specs.Groups.{is_selected, selected}
use Rattle.ub_query.specs.Lead.{AreGroupsInOrder, swept_order}
use Rattle.ub_query.specs.Meaning.{limited}
use Rattle.ub_query.specs.Order.{IsArrangement, IsRowBefore}
use Rattle.ub_query.specs.Shape.{Asked}
use Rattle.ub_query.specs.declared.query.Item.{Item}
use Rattle.ub_query.specs.declared.query.Item.TheVariants.{Column, Count, Aggregate}
use Rattle.ub_query.specs.declared.query.SortKey.{SortKey}
use Rattle.ub_region.specs.Regions.{AreRegions, rows_of}
use Rattle.ub_table.specs.Region.{RegionRows}
use Rattle.ub_table.specs.declared.row.Row.{Row}
use Rattle.ub_table.specs.declared.schema.Schema.{Schema}

-- the cells of two rows are alike: both are numbers
cells-alike : (schema : Schema) (a b : Row) (item : Item) → AreAlike (row_cell schema a item) (row_cell schema b item)
cells-alike schema a b (Column column) = tt
cells-alike schema a b Count = tt
cells-alike schema a b (Aggregate taken column) = tt

-- rows of different numbers have an order by any keys
rows_arranged : (schema : Schema) (keys : List SortKey) (rows : List Row) → Rising (λ a b. Differ a b) rows
    → (arranged : List Row) × IsArrangement (IsRowBefore schema keys) rows arranged
rows_arranged schema keys rows differ =
    an_arrangement (IsRowBefore schema keys)
    (before-chain (row_cell schema) (λ a b. a.number < b.number) numbers-chain keys)
    rows
    (Rising-both (λ a b. Differ a b) (λ a b. IsRowBefore schema keys a b ⊎ IsRowBefore schema keys b a) (λ row. Unit {0})
    (λ a b p q h. before-sides (row_cell schema) (λ a b. a.number < b.number) keys a b (cells-alike schema a b) h)
    rows (all_from_contains (λ (row : Row). Unit {0}) rows (λ row c. tt)) differ)

-- the selected rows have the order in which a sweep gives them
pub arranged_of : (schema : Schema) (plan : PlanView) (next : ℕ) (regions : List RegionRows) → AreRegions schema next regions
    → (arranged : List Row) × AreArranged schema plan (selected_rows schema plan regions) arranged
arranged_of schema plan next regions are =
    rows_arranged schema (swept_order plan.asked.group plan.asked.order) (selected_rows schema plan regions)
    (Rising-filter (λ a b. Differ a b) (is_selected schema plan.asked.filter) (rows_of regions) (rows_differ (rows_of regions) are.distinct))

-- the groups of rows have the order asked, and no two
pub groups_in_order : (schema : Schema) (q : Asked) (rows : List Row) → (arranged : List Group) × AreGroupsInOrder schema q rows arranged
groups_in_order schema q rows =
    let (groups, grouped) = rows_fall_into_groups schema q.group rows in
    let (arranged, ordered) = groups_have_an_arrangement schema q.group q.order rows groups grouped in
    (arranged, record { groups = groups; grouped = grouped; ordered = ordered })

pub groups_in_one_order : (schema : Schema) (q : Asked) (rows : List Row) (first second : List Group)
    → AreGroupsInOrder schema q rows first → AreGroupsInOrder schema q rows second → first ≡ second
groups_in_one_order schema q rows first second a b =
    groups_have_one_arrangement schema q.group q.order rows a.groups b.groups first second a.grouped b.grouped a.ordered b.ordered

-- ---- there are visits

pub sweep_visits_of : (schema : Schema) (plan : PlanView) (dim : ℕ) (t : Bool) (next : ℕ) (regions : List RegionRows) → AreRegions schema next regions
    → (visits : List Span) × AreSweepVisits schema plan dim t regions visits
sweep_visits_of schema plan dim t next regions are =
    let (events, events_are) = events_of schema plan.covering.boxes dim t next regions are in
    let (arranged, arranged_are) = arranged_of schema plan next regions are in (
      map (λ event. event.span) (reached t plan.asked.limit (coordinates dim (limited plan.asked.limit arranged)) events),
      record { events = events; events_are = events_are; arranged = arranged; arranged_are = arranged_are; visits_are = refl },
    )

pub group_visits_of : (schema : Schema) (plan : PlanView) (dim : ℕ) (t : Bool) (next : ℕ) (regions : List RegionRows) → AreRegions schema next regions
    → (visits : List Span) × AreGroupVisits schema plan dim t regions visits
group_visits_of schema plan dim t next regions are =
    let (events, events_are) = events_of schema plan.covering.boxes dim t next regions are in
    let (rows, rows_are) = regions_have_a_table schema next regions are in
    let (arranged, arranged_are) = groups_in_order schema plan.asked (selected (table_of schema rows) plan.asked.filter) in (
      map (λ event. event.span) (reached t plan.asked.limit (map (lead_coordinate dim) (limited plan.asked.limit arranged)) events),
      record {
        events = events;
        events_are = events_are;
        rows = rows;
        rows_are = rows_are;
        arranged = arranged;
        arranged_are = arranged_are;
        visits_are = refl;
      },
    )

swept_visits_of : (group : List ℕ) (schema : Schema) (plan : PlanView) (dim : ℕ) (t : Bool) (next : ℕ) (regions : List RegionRows)
    → AreRegions schema next regions → (visits : List Span) × AreSweptVisits group schema plan dim t regions visits
swept_visits_of [] schema plan dim t next regions are = sweep_visits_of schema plan dim t next regions are
swept_visits_of (column ∷ group) schema plan dim t next regions are = group_visits_of schema plan dim t next regions are

pub visits_of : (kind : Kind) (schema : Schema) (plan : PlanView) (next : ℕ) (regions : List RegionRows) → AreRegions schema next regions
    → (visits : List Span) × AreVisitsBy kind schema plan regions visits
visits_of Empty schema plan next regions are = ([], refl)
visits_of Scan schema plan next regions are = meeting_of schema plan.covering.boxes regions
visits_of (Sweep dim t) schema plan next regions are = swept_visits_of plan.asked.group schema plan dim t next regions are

-- ---- and only one list of them

sweep_visits_one : (schema : Schema) (plan : PlanView) (dim : ℕ) (t : Bool) (regions : List RegionRows) (first second : List Span)
    → AreSweepVisits schema plan dim t regions first → AreSweepVisits schema plan dim t regions second → first ≡ second
sweep_visits_one schema plan dim t regions first second a b =
    let events : a.events ≡ b.events = events_one schema plan.covering.boxes dim t regions a.events b.events a.events_are b.events_are in
    let rows : a.arranged ≡ b.arranged =
    rows_have_one_arrangement schema (swept_order plan.asked.group plan.asked.order) (selected_rows schema plan regions) a.arranged b.arranged a.arranged_are b.arranged_are in
    a.visits_are
    ∙ ap (λ (es : List Event). map (λ event. event.span) (reached t plan.asked.limit (coordinates dim (limited plan.asked.limit a.arranged)) es)) events
    ∙ ap (λ (rs : List Row). map (λ event. event.span) (reached t plan.asked.limit (coordinates dim (limited plan.asked.limit rs)) b.events)) rows
    ∙ sym b.visits_are

group_visits_one : (schema : Schema) (plan : PlanView) (dim : ℕ) (t : Bool) (regions : List RegionRows) (first second : List Span)
    → AreGroupVisits schema plan dim t regions first → AreGroupVisits schema plan dim t regions second → first ≡ second
group_visits_one schema plan dim t regions first second a b =
    let events : a.events ≡ b.events = events_one schema plan.covering.boxes dim t regions a.events b.events a.events_are b.events_are in
    let rows : a.rows ≡ b.rows = regions_have_one_table regions a.rows b.rows a.rows_are b.rows_are in
    let groups : a.arranged ≡ b.arranged =
    groups_in_one_order schema plan.asked (selected (table_of schema b.rows) plan.asked.filter) a.arranged b.arranged
    (subst (λ (rs : List Row). AreGroupsInOrder schema plan.asked (selected (table_of schema rs) plan.asked.filter) a.arranged) rows a.arranged_are) b.arranged_are in
    a.visits_are
    ∙ ap (λ (es : List Event). map (λ event. event.span) (reached t plan.asked.limit (map (lead_coordinate dim) (limited plan.asked.limit a.arranged)) es)) events
    ∙ ap (λ (gs : List Group). map (λ event. event.span) (reached t plan.asked.limit (map (lead_coordinate dim) (limited plan.asked.limit gs)) b.events)) groups
    ∙ sym b.visits_are

swept_visits_one : (group : List ℕ) (schema : Schema) (plan : PlanView) (dim : ℕ) (t : Bool) (regions : List RegionRows) (first second : List Span)
    → AreSweptVisits group schema plan dim t regions first → AreSweptVisits group schema plan dim t regions second → first ≡ second
swept_visits_one [] schema plan dim t regions first second a b = sweep_visits_one schema plan dim t regions first second a b
swept_visits_one (column ∷ group) schema plan dim t regions first second a b = group_visits_one schema plan dim t regions first second a b

pub visits_one : (kind : Kind) (schema : Schema) (plan : PlanView) (regions : List RegionRows) (first second : List Span)
    → AreVisitsBy kind schema plan regions first → AreVisitsBy kind schema plan regions second → first ≡ second
visits_one Empty schema plan regions first second a b = a ∙ sym b
visits_one Scan schema plan regions first second a b =
    those_one (λ (span : Span). Meets plan.covering.boxes span.from span.to) (spans_of schema regions) first second a b
visits_one (Sweep dim t) schema plan regions first second a b = swept_visits_one plan.asked.group schema plan dim t regions first second a b
