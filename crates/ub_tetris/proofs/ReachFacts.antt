-- In which regions the selected rows of a sweep stand, and that none lies before the event value of its region.
use Rattle.std.proofs.Common.{◌≡◌, ◌≤◌, ◌+◌, ℕ, List, [], ◌∷◌, ◌++◌, Bool, true, false, map, filter, take, slice_index, Contains, inl, inr, refl, sym, ap, ◌∙◌, subst, arith}
use Rattle.std.proofs.lemmas.List.{get_or-take}
use Rattle.std.proofs.lemmas.List.Elements.{All-contains}
use Rattle.std.proofs.lemmas.List.Sorted.{Contains-permutation, IsPermutation-sym, sum_by-IsPermutation}
use Rattle.std.proofs.lemmas.List.Sums.{sum_by-append}
use Rattle.std.specs.List.{sum_by}
use Rattle.ub_bigmin.specs.Box.{Corners, IsValueInSpan}
use Rattle.ub_boxes.proofs.Laws.{selected_are_in_boxes}
use Rattle.ub_boxes.specs.Laws.{IsInSome}
use Rattle.ub_planning.proofs.Laws.{of_some_span, of_span, rows_are_points, parts_back}
use Rattle.ub_planning.specs.Plan.{PlanView, plan_of}
use Rattle.ub_planning.specs.Visits.{AreEvents, Event, IsEventValue, Meets, Span, fetched_rows, selected_rows, spans_of, spans_up_to}
use Rattle.ub_region.specs.Those.{AreThose}
use Rattle.ub_planning.specs.declared.planned.Kind.TheVariants.{Sweep}
use Rattle.ub_query.proofs.Laws.{contains_here, contains_later, contains_cases, contains_filter, contains_from_filter, contains_from_map, contains_map}
use Rattle.ub_query.specs.Groups.{is_selected}
use Rattle.ub_region.proofs.Laws.{IsChain, chain_of}
use Rattle.ub_region.specs.Regions.{AreRegions, rows_of}
use Rattle.ub_table.specs.Region.{RegionRows}
use Rattle.ub_table.specs.declared.row.Row.{Row}
use Rattle.ub_table.specs.declared.schema.Schema.{Schema}
use Rattle.ub_tetris.proofs.AlongFacts.{IsUpTo, sweep_boxes, led_plan}
use Rattle.ub_tetris.proofs.ArrangeFacts.{in_part, from_part, sum_of_map, sum_of_parts, sum_of_those}
use Rattle.ub_tetris.specs.Machine.{IsRowAlong, regions_at}
use Rattle.ub_zaddr.specs.Address.{address, last_address}

-- what a sweep goes over: the plan of its query, a sweep in this dimension and direction, and a table's regions
pub record IsSweepOver (schema : Schema) (plan : PlanView) (dim : ℕ) (is_descending : Bool) (next : ℕ) (regions : List RegionRows) : Type 0 where
  pub planned : plan ≡ plan_of schema plan.asked
  pub kind : plan.kind ≡ Sweep dim is_descending
  pub are : AreRegions schema next regions

pub chain : (schema : Schema) (plan : PlanView) (dim : ℕ) (is_descending : Bool) (next : ℕ) (regions : List RegionRows) → IsSweepOver schema plan dim is_descending next regions → IsChain schema regions
chain schema plan dim is_descending next regions over = chain_of schema regions over.are.each over.are.ascending over.are.apart

-- ---- spans

rows_in_spans : (last : ℕ) (regions : List RegionRows) → fetched_rows (spans_up_to last regions) ≡ rows_of regions
rows_in_spans last [] = refl
rows_in_spans last (region ∷ regions) = ap (λ (rows : List Row). region.rows ++ rows) (rows_in_spans last regions)

-- a selected row's point lies in a box
row_in_boxes : (schema : Schema) (plan : PlanView) (dim : ℕ) (is_descending : Bool) (next : ℕ) (regions : List RegionRows) (row : Row) → IsSweepOver schema plan dim is_descending next regions
    → Contains (rows_of regions) row → is_selected schema plan.asked.filter row ≡ true → IsInSome plan.covering.boxes (take schema.dims row.dims)
row_in_boxes schema plan dim is_descending next regions row over there t =
    subst (λ (boxes : List Corners). IsInSome boxes (take schema.dims row.dims)) (sym (sweep_boxes schema plan dim is_descending over.planned over.kind))
    (selected_are_in_boxes schema plan.asked.filter row (rows_are_points schema regions row (chain schema plan dim is_descending next regions over) there) t)

-- so its span meets the boxes, and its coordinate is a value in the span
row_value : (schema : Schema) (plan : PlanView) (dim : ℕ) (is_descending : Bool) (next : ℕ) (regions : List RegionRows) (span : Span) (row : Row) → IsSweepOver schema plan dim is_descending next regions
    → Contains (spans_of schema regions) span → Contains span.region.rows row → is_selected schema plan.asked.filter row ≡ true
    → IsValueInSpan plan.covering.boxes span.from span.to dim (slice_index row.dims dim)
row_value schema plan dim is_descending next regions span row over there has t =
    let (b, here, inside) = row_in_boxes schema plan dim is_descending next regions row over (of_some_span (last_address schema.dims) regions span row there has) t in
    let of = of_span schema (last_address schema.dims) regions span row refl (chain schema plan dim is_descending next regions over) there has in
    let led = led_plan schema plan dim is_descending over.planned over.kind in
    (b, take schema.dims row.dims, here, inside, of.from, of.to, get_or-take schema.dims row.dims dim 0 led.within)

value_meets : (boxes : List Corners) (span : Span) (dim v : ℕ) → IsValueInSpan boxes span.from span.to dim v → Meets boxes span.from span.to
value_meets boxes span dim v (b, p, here, inside, from, to, is) = (address p, (b, here, (p, inside, refl)), from, to)

-- ---- events

meeting_span : (P : Span → Type 0) (spans meeting : List Span) (span : Span) → AreThose P spans meeting → Contains meeting span → Contains spans span
meeting_span P [] meeting span are there = subst (λ (ss : List Span). Contains ss span) are there
meeting_span P (s ∷ spans) meeting span (inl are) there = elim (contains_cases s are.1 span (subst (λ (ss : List Span). Contains ss span) are.2 there)) [
  | inl same ↦ subst (λ (x : Span). Contains (s ∷ spans) x) same (contains_here s spans)
  | inr later ↦ contains_later s spans span (meeting_span P spans are.1 span are.3 later)
]
meeting_span P (s ∷ spans) meeting span (inr are) there = contains_later s spans span (meeting_span P spans meeting span are.1 there)

pub event_span : (schema : Schema) (boxes : List Corners) (dim : ℕ) (is_descending : Bool) (regions : List RegionRows) (events : List Event) (event : Event)
    → AreEvents schema boxes dim is_descending regions events → Contains events event → Contains (spans_of schema regions) event.span
event_span schema boxes dim is_descending regions events event are there =
    meeting_span (λ span. Meets boxes span.from span.to) (spans_of schema regions) are.meeting event.span are.meeting_are
    (Contains-permutation (map (λ (event : Event). event.span) events) are.meeting event.span (IsPermutation-sym are.meeting (map (λ (event : Event). event.span) events) are.same)
    (contains_map (λ (event : Event). event.span) events event there))

-- a row of an event's region is a row of the regions
pub event_rows : (schema : Schema) (boxes : List Corners) (dim : ℕ) (is_descending : Bool) (regions : List RegionRows) (events : List Event) (event : Event) (row : Row)
    → AreEvents schema boxes dim is_descending regions events → Contains events event → Contains event.span.region.rows row → Contains (rows_of regions) row
event_rows schema boxes dim is_descending regions events event row are there has =
    of_some_span (last_address schema.dims) regions event.span row (event_span schema boxes dim is_descending regions events event are there) has

value_first : (boxes : List Corners) (dim : ℕ) (is_descending : Bool) (span : Span) (v m : ℕ) → IsEventValue boxes dim is_descending span v → IsValueInSpan boxes span.from span.to dim m → IsUpTo is_descending v m
value_first boxes dim false span v m is there before = let least = is.1 m there in omega arith
value_first boxes dim true span v m is there before = let greatest = is.1 m there in omega arith

-- a selected row doesn't lie before the event value of its region
pub row_is_past : (schema : Schema) (plan : PlanView) (dim : ℕ) (is_descending : Bool) (next : ℕ) (regions : List RegionRows) (events : List Event) (event : Event) (row : Row)
    → IsSweepOver schema plan dim is_descending next regions → AreEvents schema plan.covering.boxes dim is_descending regions events
    → Contains events event → Contains event.span.region.rows row → is_selected schema plan.asked.filter row ≡ true
    → ¬ (IsRowAlong dim is_descending row event.value)
row_is_past schema plan dim is_descending next regions events event row over are there has t =
    value_first plan.covering.boxes dim is_descending event.span event.value (slice_index row.dims dim)
    (All-contains (λ (event : Event). IsEventValue plan.covering.boxes dim is_descending event.span event.value) events event are.values there)
    (row_value schema plan dim is_descending next regions event.span row over (event_span schema plan.covering.boxes dim is_descending regions events event are there) has t)

span_has : (a b : Span) (row : Row) → a ≡ b → Contains b.region.rows row → Contains a.region.rows row
span_has a b row same has = subst (λ (s : Span). Contains s.region.rows row) (sym same) has

region_has : (a b : RegionRows) (row : Row) → a ≡ b → Contains b.rows row → Contains a.rows row
region_has a b row same has = subst (λ (r : RegionRows). Contains r.rows row) (sym same) has

-- each selected row stands in the region of an event
pub row_in_event : (schema : Schema) (plan : PlanView) (dim : ℕ) (is_descending : Bool) (next : ℕ) (regions : List RegionRows) (events : List Event) (row : Row)
    → IsSweepOver schema plan dim is_descending next regions → AreEvents schema plan.covering.boxes dim is_descending regions events
    → Contains (selected_rows schema plan regions) row
    → (event : Event) × Contains events event × Contains event.span.region.rows row × (is_selected schema plan.asked.filter row ≡ true)
row_in_event schema plan dim is_descending next regions events row over are there =
    let from = contains_from_filter (is_selected schema plan.asked.filter) (rows_of regions) row there in
    let met = parts_back (λ (span : Span). Meets plan.covering.boxes span.from span.to) (λ (span : Span). span.region.rows) row (spans_of schema regions) are.meeting are.meeting_are
    (λ span here has. value_meets plan.covering.boxes span dim (slice_index row.dims dim) (row_value schema plan dim is_descending next regions span row over here has from.1))
    (subst (λ (rows : List Row). Contains rows row) (sym (rows_in_spans (last_address schema.dims) regions)) from.0) in
    let (span, in_meeting, has) = from_part (λ (span : Span). span.region.rows) are.meeting row met in
    let (event, in_events, same) = contains_from_map (λ (event : Event). event.span) events span
    (Contains-permutation are.meeting (map (λ (event : Event). event.span) events) span are.same in_meeting) in
    (event, in_events, span_has event.span span row same has, from.1)

-- the selected rows of some events' regions
pub in_fetched : (schema : Schema) (plan : PlanView) (events : List Event) (event : Event) (row : Row) → Contains events event → Contains event.span.region.rows row
    → is_selected schema plan.asked.filter row ≡ true → Contains (selected_rows schema plan (regions_at events)) row
in_fetched schema plan events event row there has t =
    contains_filter (is_selected schema plan.asked.filter) (rows_of (regions_at events)) row
    (in_part (λ (region : RegionRows). region.rows) (regions_at events) event.span.region row (contains_map (λ (event : Event). event.span.region) events event there) has) t

pub from_fetched : (schema : Schema) (plan : PlanView) (events : List Event) (row : Row) → Contains (selected_rows schema plan (regions_at events)) row
    → (event : Event) × Contains events event × Contains event.span.region.rows row × (is_selected schema plan.asked.filter row ≡ true)
from_fetched schema plan events row c =
    let from = contains_from_filter (is_selected schema plan.asked.filter) (rows_of (regions_at events)) row c in
    let (region, there, has) = from_part (λ (region : RegionRows). region.rows) (regions_at events) row from.0 in
    let (event, here, same) = contains_from_map (λ (event : Event). event.span.region) events region there in
    (event, here, region_has event.span.region region row same has, from.1)

-- ---- how much the selected rows of fetched regions weigh

weight_of_span : (Row → ℕ) → (Row → Bool) → Span → ℕ
weight_of_span weight p span = sum_by weight (filter p span.region.rows)

-- no more than those of all regions
pub fetched_weigh : (schema : Schema) (plan : PlanView) (dim : ℕ) (is_descending : Bool) (regions : List RegionRows) (fetched unread : List Event) (weight : Row → ℕ)
    → AreEvents schema plan.covering.boxes dim is_descending regions (fetched ++ unread)
    → sum_by weight (selected_rows schema plan (regions_at fetched)) ≤ sum_by weight (selected_rows schema plan regions)
unfolding weight_of_span
fetched_weigh schema plan dim is_descending regions fetched unread weight are =
    let p = is_selected schema plan.asked.filter in
    let of : Span → ℕ = weight_of_span weight p in
    let few : sum_by weight (selected_rows schema plan (regions_at fetched)) ≡ sum_by (λ (event : Event). of event.span) fetched =
    sum_of_parts weight p (λ (region : RegionRows). region.rows) (regions_at fetched) ∙ sum_of_map (λ (region : RegionRows). sum_by weight (filter p region.rows)) (λ (event : Event). event.span.region) fetched in
    let both : sum_by (λ (event : Event). of event.span) (fetched ++ unread) ≡ sum_by (λ (event : Event). of event.span) fetched + sum_by (λ (event : Event). of event.span) unread = sum_by-append (λ (event : Event). of event.span) fetched unread in
    let spans : sum_by of (map (λ (event : Event). event.span) (fetched ++ unread)) ≡ sum_by (λ (event : Event). of event.span) (fetched ++ unread) = sum_of_map of (λ (event : Event). event.span) (fetched ++ unread) in
    let same : sum_by of (map (λ (event : Event). event.span) (fetched ++ unread)) ≡ sum_by of are.meeting = sum_by-IsPermutation of are.meeting (map (λ (event : Event). event.span) (fetched ++ unread)) are.same in
    let those : sum_by of are.meeting ≤ sum_by of (spans_of schema regions) = sum_of_those (λ (span : Span). Meets plan.covering.boxes span.from span.to) of (spans_of schema regions) are.meeting are.meeting_are in
    let all : sum_by weight (selected_rows schema plan regions) ≡ sum_by of (spans_of schema regions) =
    ap (λ (rows : List Row). sum_by weight (filter p rows)) (sym (rows_in_spans (last_address schema.dims) regions)) ∙ sum_of_parts weight p (λ (span : Span). span.region.rows) (spans_of schema regions) in
    omega (arith, few, both, spans, same, those, all)
