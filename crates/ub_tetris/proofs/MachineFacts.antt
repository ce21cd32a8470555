-- What the steps of a sweep do, as lists alone: it begins, fetches a region, gives a row, and ends.
use Rattle.std.specs.Prelude.{IfSome}
use Rattle.std.proofs.Common.{◌≡◌, ◌≤◌, ◌<◌, ◌==◌, ◌⊎◌, ℕ, List, [], ◌∷◌, ◌++◌, Bool, cond, Option, Some, None, length, map, filter, take, slice_index, Contains, IsPermutation, inl, inr, refl, sym, ap, ◌∙◌, append_assoc, subst, arith}
use Rattle.std.proofs.lemmas.Bool.{cases_Bool, eq-eqb, eqb-true}
use Rattle.std.proofs.lemmas.Grind.{flat_map-append}
use Rattle.std.proofs.lemmas.List.{append-nil, map-append, take_all}
use Rattle.std.proofs.lemmas.List.Elements.{recursion_from_All, All-contains, All-nil, All-tail, Contains-append_cases, Contains-append_left, Contains-append_right, filter-append}
use Rattle.std.proofs.lemmas.List.Sorted.{Contains-permutation, IsPermutation-append_left, IsPermutation-append_right, IsPermutation-pop_more, IsPermutation-refl, IsPermutation-sym, IsPermutation-trans, sum_by-IsPermutation}
use Rattle.std.proofs.lemmas.List.Sums.{sum_by-append}
use Rattle.std.proofs.Math.Seq.{take-append_seam}
use Rattle.std.specs.List.{All, AllAdjacentBelow, AllByRecursion, sum_by}
use Rattle.ub_planning.proofs.Laws.{AreUpTo, Differ, StopsAt, arranged_of, reached_filled, reached_front, reached_short}
use Rattle.ub_planning.specs.Plan.{PlanView}
use Rattle.ub_planning.specs.Visits.{AreArranged, AreEvents, AreSweepVisits, Event, IsAlong, coordinates, last_of, reached, selected_rows}
use Rattle.ub_query.proofs.Laws.{Rising, Rising-from_adjacent, all_from_contains, all_at, all_weaker, contains_cases, contains_here, contains_later, contains_none, contains_filter, contains_from_filter}
use Rattle.ub_query.specs.Cells.{row_cell}
use Rattle.ub_query.specs.Groups.{is_selected, selected}
use Rattle.ub_query.specs.Lead.{swept_order}
use Rattle.ub_query.specs.Meaning.{IsMeaning, limited}
use Rattle.ub_query.specs.Order.{IsRowBefore}
use Rattle.ub_query.specs.declared.query.SortKey.{SortKey}
use Rattle.ub_region.specs.Regions.{AreTableRows, rows_of}
use Rattle.ub_table.specs.Region.{RegionRows}
use Rattle.ub_table.specs.declared.row.Row.{Row}
use Rattle.ub_table.specs.declared.schema.Schema.{Schema}
use Rattle.ub_tetris.proofs.AlongFacts.{IsUpTo, along_before, along_up_to, led_asks, led_plan, plan_is_plain, keys_of, up_to_chain, values_rise}
use Rattle.ub_tetris.proofs.ArrangeFacts.{all_of, least_first, rising_apart, rising_right, rising_two, some_weight, weight_there}
use Rattle.ub_tetris.proofs.NumberFacts.{asked-chain, asked-never, selected_differ, selected_of_table}
use Rattle.ub_tetris.proofs.ReachFacts.{event_rows, fetched_weigh, from_fetched, in_fetched, row_in_event, row_is_past}
use Rattle.ub_tetris.specs.Machine.{IsRowAlong, IsUnderWay, regions_at}
pub use Rattle.ub_tetris.proofs.ReachFacts.{IsSweepOver}

-- a row's coordinate lies before the value of the next event, if there is one
abbrev pub IsBeforeNext : ℕ → Bool → Row → List Event → Type 0
IsBeforeNext dim is_descending row [] = Unit {0}
IsBeforeNext dim is_descending row (event ∷ events) = IsRowAlong dim is_descending row event.value

-- a row was the next one to be given, and was given: no region was fetched whose event value is past it
pub record Gives (schema : Schema) (plan : PlanView) (dim : ℕ) (is_descending : Bool) (regions : List RegionRows) (held_then given rest : List Row) (fetched unread : List Event) (row : Row) : Type 0 where
  pub more : List Row
  pub next : rest ≡ row ∷ more
  pub under_way : IsUnderWay schema plan dim is_descending regions held_then (given ++ row ∷ []) more fetched unread
  pub reached : All (λ event. ¬ IsRowAlong dim is_descending row event.value) fetched

-- a sweep begins: nothing is held or given, and no region fetched
pub begins : (schema : Schema) (plan : PlanView) (dim : ℕ) (is_descending : Bool) (next : ℕ) (regions : List RegionRows) (events : List Event)
    → IsSweepOver schema plan dim is_descending next regions → AreEvents schema plan.covering.boxes dim is_descending regions events
    → (rest : List Row) × IsUnderWay schema plan dim is_descending regions [] [] rest [] events
begins schema plan dim is_descending next regions events over are =
    let (rest, arranged) = arranged_of schema plan next regions over.are in (
      rest,
      record {
        events = are;
        rows = arranged;
        held_are = IsPermutation-refl [];
        held_past = All-nil (λ event. All (λ row. ¬ (IsRowAlong dim is_descending row event.value)) []);
        given_before = all_of (λ event. All (λ row. IsRowAlong dim is_descending row event.value) []) events (λ event there. All-nil (λ row. IsRowAlong dim is_descending row event.value));
      },
    )

pub selected_append : (schema : Schema) (plan : PlanView) (xs ys : List Event)
    → selected_rows schema plan (regions_at (xs ++ ys)) ≡ selected_rows schema plan (regions_at xs) ++ selected_rows schema plan (regions_at ys)
selected_append schema plan xs ys =
    ap (λ (regions : List RegionRows). selected_rows schema plan regions) (map-append (λ (event : Event). event.span.region) xs ys)
    ∙ ap (λ (rows : List Row). filter (is_selected schema plan.asked.filter) rows) (flat_map-append (λ (region : RegionRows). region.rows) (regions_at xs) (regions_at ys))
    ∙ filter-append (is_selected schema plan.asked.filter) (rows_of (regions_at xs)) (rows_of (regions_at ys))

fetched_are : (schema : Schema) (plan : PlanView) (held held_then given : List Row) (fetched : List Event) (event : Event)
    → IsPermutation (selected_rows schema plan (regions_at fetched)) (given ++ held)
    → IsPermutation (held ++ filter (is_selected schema plan.asked.filter) event.span.region.rows) held_then
    → IsPermutation (selected_rows schema plan (regions_at (fetched ++ event ∷ []))) (given ++ held_then)
fetched_are schema plan held held_then given fetched event are same =
    let new = filter (is_selected schema plan.asked.filter) event.span.region.rows in
    let parts : selected_rows schema plan (regions_at (fetched ++ event ∷ [])) ≡ selected_rows schema plan (regions_at fetched) ++ new =
    selected_append schema plan fetched (event ∷ [])
    ∙ ap (λ (rows : List Row). selected_rows schema plan (regions_at fetched) ++ filter (is_selected schema plan.asked.filter) rows) (append-nil event.span.region.rows) in
    subst (λ (rows : List Row). IsPermutation rows (given ++ held_then)) (sym parts)
    (IsPermutation-trans (selected_rows schema plan (regions_at fetched) ++ new) ((given ++ held) ++ new) (given ++ held_then)
    (IsPermutation-append_left new (selected_rows schema plan (regions_at fetched)) (given ++ held) are)
    (subst (λ (rows : List Row). IsPermutation rows (given ++ held_then)) (sym (append_assoc given held new)) (IsPermutation-append_right given (held ++ new) held_then same)))

-- what a list of one element contains
only_one : {E : Type 0} (x y : E) → Contains (x ∷ []) y → (P : E → Type 0) → P x → P y
only_one x y there P is = elim (contains_cases x [] y there) [
  | inl same ↦ subst (λ (z : _). P z) same is
  | inr none ↦ absurd (contains_none y none)
]

-- it fetches the next region, where no held row lies before its event value, and then holds the region's selected rows too
pub fetches : (schema : Schema) (plan : PlanView) (dim : ℕ) (is_descending : Bool) (next : ℕ) (regions : List RegionRows) (held held_then given rest : List Row) (fetched : List Event) (event : Event) (unread : List Event)
    → IsSweepOver schema plan dim is_descending next regions
    → IsUnderWay schema plan dim is_descending regions held given rest fetched (event ∷ unread)
    → All (λ row. ¬ IsRowAlong dim is_descending row event.value) held
    → IsPermutation (held ++ filter (is_selected schema plan.asked.filter) event.span.region.rows) held_then
    → IsUnderWay schema plan dim is_descending regions held_then given rest (fetched ++ event ∷ []) unread
fetches schema plan dim is_descending next regions held held_then given rest fetched event unread over under past same =
    let up : Rising (λ a b. IsUpTo is_descending a.value b.value) (fetched ++ event ∷ unread) = values_rise is_descending (fetched ++ event ∷ unread) under.events.ordered in
    let here : Contains (fetched ++ event ∷ unread) event = Contains-append_right fetched (event ∷ unread) event (contains_here event unread) in
    record {
      events = subst (λ (events : List Event). AreEvents schema plan.covering.boxes dim is_descending regions events) (sym (append_assoc fetched (event ∷ []) unread)) under.events;
      rows = under.rows;
      held_are = fetched_are schema plan held held_then given fetched event under.held_are same;
      held_past = all_of (λ e. All (λ row. ¬ (IsRowAlong dim is_descending row e.value)) held_then) (fetched ++ event ∷ [])
          (λ e there. all_of (λ row. ¬ (IsRowAlong dim is_descending row e.value)) held_then
          (λ row c. elim (Contains-append_cases held (filter (is_selected schema plan.asked.filter) event.span.region.rows) row
          (Contains-permutation held_then (held ++ filter (is_selected schema plan.asked.filter) event.span.region.rows) row (IsPermutation-sym (held ++ filter (is_selected schema plan.asked.filter) event.span.region.rows) held_then same) c)) [
            | inl old ↦ elim (Contains-append_cases fetched (event ∷ []) e there) [
              | inl before ↦ All-contains (λ row. ¬ (IsRowAlong dim is_descending row e.value)) held row (All-contains (λ e. All (λ row. ¬ (IsRowAlong dim is_descending row e.value)) held) fetched e under.held_past before) old
              | inr last ↦ only_one event e last (λ x. ¬ (IsRowAlong dim is_descending row x.value)) (All-contains (λ row. ¬ (IsRowAlong dim is_descending row event.value)) held row past old)
            ]
            | inr new ↦
                let from = contains_from_filter (is_selected schema plan.asked.filter) event.span.region.rows row new in
                let after : IsUpTo is_descending event.value (slice_index row.dims dim) =
                row_is_past schema plan dim is_descending next regions (fetched ++ event ∷ unread) event row over under.events here from.0 from.1 in
                elim (Contains-append_cases fetched (event ∷ []) e there) [
                  | inl before ↦ up_to_chain is_descending e.value event.value (slice_index row.dims dim)
                      (rising_apart (λ a b. IsUpTo is_descending a.value b.value) fetched (event ∷ unread) e event up before (contains_here event unread)) after
                  | inr last ↦ only_one event e last (λ x. ¬ (IsRowAlong dim is_descending row x.value)) after
                ]
          ]));
      given_before = All-tail (λ e. All (λ row. IsRowAlong dim is_descending row e.value) given) event unread under.given_before;
    }

-- a row that lies before the next event value lies before all that follow
before_all : (dim : ℕ) (is_descending : Bool) (row : Row) (unread : List Event) → IsBeforeNext dim is_descending row unread → Rising (λ a b. IsUpTo is_descending a.value b.value) unread
    → (event : Event) → Contains unread event → IsRowAlong dim is_descending row event.value
before_all dim is_descending row [] before up event there = absurd (contains_none event there)
before_all dim is_descending row (first ∷ unread) before up event there = elim (contains_cases first unread event there) [
  | inl same ↦ subst (λ (e : Event). IsRowAlong dim is_descending row e.value) same before
  | inr later ↦ along_up_to is_descending (slice_index row.dims dim) first.value event.value before (all_at (λ e. IsUpTo is_descending first.value e.value) unread event up.0 later)
]

-- a held row is one of the rows still to be given: it weighs there what it weighs among the held ones
one_if : ℕ → Row → ℕ
one_if number row = cond (row.number == number) 1 0

one_if_same : (row : Row) → one_if row.number row ≡ 1
unfolding one_if
one_if_same row = rw (eq-eqb row.number row.number refl) refl

same_if_one : (number : ℕ) (row : Row) → 1 ≤ one_if number row → row.number ≡ number
unfolding one_if
same_if_one number row h = elim (cases_Bool (row.number == number)) [
  | inl t ↦ eqb-true row.number number t
  | inr f ↦ let none : 1 ≤ 0 = rw f at h in absurd (omega arith)
]

held_weigh : (schema : Schema) (plan : PlanView) (dim : ℕ) (is_descending : Bool) (regions : List RegionRows) (held given rest : List Row) (fetched unread : List Event) (weight : Row → ℕ)
    → IsUnderWay schema plan dim is_descending regions held given rest fetched unread → sum_by weight held ≤ sum_by weight rest
held_weigh schema plan dim is_descending regions held given rest fetched unread weight under =
    let most = fetched_weigh schema plan dim is_descending regions fetched unread weight under.events in
    let left = sum_by-IsPermutation weight (selected_rows schema plan (regions_at fetched)) (given ++ held) under.held_are in
    let right = sum_by-IsPermutation weight (selected_rows schema plan regions) (given ++ rest) under.rows.same in
    let left_parts = sum_by-append weight given held in
    let right_parts = sum_by-append weight given rest in
    omega (arith, most, left, right, left_parts, right_parts)

same_row : (rows : List Row) (a b : Row) → Rising (λ a b. Differ a b) rows → Contains rows a → Contains rows b → a.number ≡ b.number → a ≡ b
same_row rows a b up left right same = elim (rising_two (λ a b. Differ a b) rows a b up left right) [
  | inl is ↦ is
  | inr (inl (inl lt)) ↦ absurd (omega arith)
  | inr (inl (inr lt)) ↦ absurd (omega arith)
  | inr (inr (inl lt)) ↦ absurd (omega arith)
  | inr (inr (inr lt)) ↦ absurd (omega arith)
]

-- the held rows and those still to be given are selected rows
held_selected : (schema : Schema) (plan : PlanView) (dim : ℕ) (is_descending : Bool) (regions : List RegionRows) (held given rest : List Row) (fetched unread : List Event) (row : Row)
    → IsUnderWay schema plan dim is_descending regions held given rest fetched unread → Contains held row → Contains (selected_rows schema plan regions) row
held_selected schema plan dim is_descending regions held given rest fetched unread row under here =
    let (event, there, has, t) = from_fetched schema plan fetched row
    (Contains-permutation (given ++ held) (selected_rows schema plan (regions_at fetched)) row
    (IsPermutation-sym (selected_rows schema plan (regions_at fetched)) (given ++ held) under.held_are) (Contains-append_right given held row here)) in
    contains_filter (is_selected schema plan.asked.filter) (rows_of regions) row
    (event_rows schema plan.covering.boxes dim is_descending regions (fetched ++ unread) event row under.events (Contains-append_left fetched unread event there) has) t

rest_selected : (schema : Schema) (plan : PlanView) (dim : ℕ) (is_descending : Bool) (regions : List RegionRows) (held given rest : List Row) (fetched unread : List Event) (row : Row)
    → IsUnderWay schema plan dim is_descending regions held given rest fetched unread → Contains rest row → Contains (selected_rows schema plan regions) row
rest_selected schema plan dim is_descending regions held given rest fetched unread row under there =
    Contains-permutation (given ++ rest) (selected_rows schema plan regions) row (IsPermutation-sym (selected_rows schema plan regions) (given ++ rest) under.rows.same) (Contains-append_right given rest row there)

pub held_in_rest : (schema : Schema) (plan : PlanView) (dim : ℕ) (is_descending : Bool) (next : ℕ) (regions : List RegionRows) (held given rest : List Row) (fetched unread : List Event) (row : Row)
    → IsSweepOver schema plan dim is_descending next regions → IsUnderWay schema plan dim is_descending regions held given rest fetched unread → Contains held row → Contains rest row
held_in_rest schema plan dim is_descending next regions held given rest fetched unread row over under here =
    let most = held_weigh schema plan dim is_descending regions held given rest fetched unread (one_if row.number) under in
    let one = weight_there (one_if row.number) held row here in
    let is = one_if_same row in
    let (other, there, weighs) = some_weight (one_if row.number) rest (omega (arith, most, one, is)) in
    let same : other ≡ row = same_row (selected_rows schema plan regions) other row (selected_differ schema plan next regions over.are)
    (rest_selected schema plan dim is_descending regions held given rest fetched unread other under there)
    (held_selected schema plan dim is_descending regions held given rest fetched unread row under here)
    (same_if_one row.number other weighs) in
    subst (λ (r : Row). Contains rest r) same there

-- no row still to be given lies before the event value of a fetched region
pub rest_past : (schema : Schema) (plan : PlanView) (dim : ℕ) (is_descending : Bool) (next : ℕ) (regions : List RegionRows) (held given rest : List Row) (fetched unread : List Event) (row : Row)
    → IsSweepOver schema plan dim is_descending next regions → IsUnderWay schema plan dim is_descending regions held given rest fetched unread
    → Contains rest row → All (λ event. ¬ IsRowAlong dim is_descending row event.value) fetched
rest_past schema plan dim is_descending next regions held given rest fetched unread row over under there =
    let asked_up : Rising (IsRowBefore schema (keys_of plan.asked)) (given ++ rest) = Rising-from_adjacent (IsRowBefore schema (keys_of plan.asked)) (asked-chain schema (keys_of plan.asked)) (given ++ rest) under.rows.ordered in
    let up : Rising (λ a b. IsUpTo is_descending a.value b.value) (fetched ++ unread) = values_rise is_descending (fetched ++ unread) under.events.ordered in
    let (other, is_other, has, t) = row_in_event schema plan dim is_descending next regions (fetched ++ unread) row over under.events
    (rest_selected schema plan dim is_descending regions held given rest fetched unread row under there) in
    all_of (λ event. ¬ (IsRowAlong dim is_descending row event.value)) fetched
    (λ event is_event along. elim (Contains-append_cases fetched unread other is_other) [
      | inl was ↦ elim (Contains-append_cases given held row (Contains-permutation (selected_rows schema plan (regions_at fetched)) (given ++ held) row under.held_are (in_fetched schema plan fetched other row was has t))) [
        | inl gone ↦ asked-never schema (keys_of plan.asked) row (rising_apart (IsRowBefore schema (keys_of plan.asked)) given rest row row asked_up gone there)
        | inr kept ↦ All-contains (λ row. ¬ (IsRowAlong dim is_descending row event.value)) held row
            (All-contains (λ event. All (λ row. ¬ (IsRowAlong dim is_descending row event.value)) held) fetched event under.held_past is_event) kept along
      ]
      | inr will ↦
          let past : IsUpTo is_descending other.value (slice_index row.dims dim) =
          row_is_past schema plan dim is_descending next regions (fetched ++ unread) other row over under.events is_other has t in
          up_to_chain is_descending event.value other.value (slice_index row.dims dim)
          (rising_apart (λ a b. IsUpTo is_descending a.value b.value) fetched unread event other up is_event will) past along
    ])

-- a row still to be given is held, or stands in a region that isn't fetched yet, and then not before its event value
pub held_or_unread : (schema : Schema) (plan : PlanView) (dim : ℕ) (is_descending : Bool) (next : ℕ) (regions : List RegionRows) (held given rest : List Row) (fetched unread : List Event) (row : Row)
    → IsSweepOver schema plan dim is_descending next regions → IsUnderWay schema plan dim is_descending regions held given rest fetched unread → Contains rest row
    → Contains held row ⊎ ((event : Event) × Contains unread event × IsUpTo is_descending event.value (slice_index row.dims dim))
held_or_unread schema plan dim is_descending next regions held given rest fetched unread row over under there =
    let order : List SortKey = keys_of plan.asked in
    let up : Rising (IsRowBefore schema order) (given ++ rest) = Rising-from_adjacent (IsRowBefore schema order) (asked-chain schema order) (given ++ rest) under.rows.ordered in
    let (event, is_event, has, t) = row_in_event schema plan dim is_descending next regions (fetched ++ unread) row over under.events
    (rest_selected schema plan dim is_descending regions held given rest fetched unread row under there) in
    elim (Contains-append_cases fetched unread event is_event) [
      | inl was ↦ elim (Contains-append_cases given held row (Contains-permutation (selected_rows schema plan (regions_at fetched)) (given ++ held) row under.held_are (in_fetched schema plan fetched event row was has t))) [
        | inl gone ↦ absurd (asked-never schema order row (rising_apart (IsRowBefore schema order) given rest row row up gone there))
        | inr kept ↦ inl kept
      ]
      | inr will ↦ inr (event, will, row_is_past schema plan dim is_descending next regions (fetched ++ unread) event row over under.events is_event has t)
    ]

-- none of them lies before a row that was given
pub given_up_to : (schema : Schema) (plan : PlanView) (dim : ℕ) (is_descending : Bool) (next : ℕ) (regions : List RegionRows) (held given rest : List Row) (fetched unread : List Event) (last row : Row)
    → IsSweepOver schema plan dim is_descending next regions → IsUnderWay schema plan dim is_descending regions held given rest fetched unread
    → Contains given last → Contains rest row → IsUpTo is_descending (slice_index last.dims dim) (slice_index row.dims dim)
given_up_to schema plan dim is_descending next regions held given rest fetched unread last row over under gone there along =
    let order : List SortKey = keys_of plan.asked in
    let up : Rising (IsRowBefore schema order) (given ++ rest) = Rising-from_adjacent (IsRowBefore schema order) (asked-chain schema order) (given ++ rest) under.rows.ordered in
    let first : IsRowBefore schema order last row = rising_apart (IsRowBefore schema order) given rest last row up gone there in
    let back : IsRowBefore schema order row last = along_before schema plan.asked dim is_descending row last (led_plan schema plan dim is_descending over.planned over.kind) along in
    asked-never schema order last (asked-chain schema order last row last first back)

-- no row still to be given is before a held one that no held row is before and that lies before all unread event values
none_before : (schema : Schema) (plan : PlanView) (dim : ℕ) (is_descending : Bool) (next : ℕ) (regions : List RegionRows) (held held_then given rest : List Row) (fetched unread : List Event) (row : Row)
    → IsSweepOver schema plan dim is_descending next regions
    → IsUnderWay schema plan dim is_descending regions held given rest fetched unread
    → IsPermutation held (row ∷ held_then)
    → All (λ other. ¬ (IsRowBefore schema (keys_of plan.asked) other row)) held_then
    → ((event : Event) → Contains unread event → IsRowAlong dim is_descending row event.value)
    → Rising (IsRowBefore schema (keys_of plan.asked)) (given ++ rest)
    → (other : Row) → Contains rest other → ¬ (IsRowBefore schema (keys_of plan.asked) other row)
none_before schema plan dim is_descending next regions held held_then given rest fetched unread row over under same least before up other there bad =
    let (event, is_event, has, t) = row_in_event schema plan dim is_descending next regions (fetched ++ unread) other over under.events
    (rest_selected schema plan dim is_descending regions held given rest fetched unread other under there) in
    elim (Contains-append_cases fetched unread event is_event) [
      | inl was ↦ elim (Contains-append_cases given held other (Contains-permutation (selected_rows schema plan (regions_at fetched)) (given ++ held) other under.held_are (in_fetched schema plan fetched event other was has t))) [
        | inl gone ↦ asked-never schema (keys_of plan.asked) other (rising_apart (IsRowBefore schema (keys_of plan.asked)) given rest other other up gone there)
        | inr kept ↦ elim (contains_cases row held_then other (Contains-permutation held (row ∷ held_then) other same kept)) [
          | inl is ↦ asked-never schema (keys_of plan.asked) row (subst (λ (r : Row). IsRowBefore schema (keys_of plan.asked) r row) (sym is) bad)
          | inr late ↦ All-contains (λ other. ¬ (IsRowBefore schema (keys_of plan.asked) other row)) held_then other least late bad
        ]
      ]
      | inr will ↦
          let past : IsUpTo is_descending event.value (slice_index other.dims dim) =
          row_is_past schema plan dim is_descending next regions (fetched ++ unread) event other over under.events is_event has t in
          let first : IsRowBefore schema (keys_of plan.asked) row other =
          along_before schema plan.asked dim is_descending row other (led_plan schema plan dim is_descending over.planned over.kind)
          (along_up_to is_descending (slice_index row.dims dim) event.value (slice_index other.dims dim) (before event will) past) in
          asked-never schema (keys_of plan.asked) row (asked-chain schema (keys_of plan.asked) row other row first bad)
    ]

-- it gives a held row that no held row is before, where it lies before the next event value
pub gives : (schema : Schema) (plan : PlanView) (dim : ℕ) (is_descending : Bool) (next : ℕ) (regions : List RegionRows) (held held_then given rest : List Row) (fetched unread : List Event) (row : Row)
    → IsSweepOver schema plan dim is_descending next regions
    → IsUnderWay schema plan dim is_descending regions held given rest fetched unread
    → IsPermutation held (row ∷ held_then)
    → All (λ other. ¬ IsRowBefore schema (keys_of plan.asked) other row) held_then
    → IsBeforeNext dim is_descending row unread
    → Gives schema plan dim is_descending regions held_then given rest fetched unread row
gives schema plan dim is_descending next regions held held_then given rest fetched unread row over under same least before =
    let here : Contains held row = Contains-permutation (row ∷ held_then) held row (IsPermutation-sym held (row ∷ held_then) same) (contains_here row held_then) in
    let asked_up : Rising (IsRowBefore schema (keys_of plan.asked)) (given ++ rest) = Rising-from_adjacent (IsRowBefore schema (keys_of plan.asked)) (asked-chain schema (keys_of plan.asked)) (given ++ rest) under.rows.ordered in
    let up : Rising (λ a b. IsUpTo is_descending a.value b.value) unread =
    rising_right (λ a b. IsUpTo is_descending a.value b.value) fetched unread (values_rise is_descending (fetched ++ unread) under.events.ordered) in
    let before_each = before_all dim is_descending row unread before up in
    let (more, first) = least_first (IsRowBefore schema (keys_of plan.asked)) rest row (rising_right (IsRowBefore schema (keys_of plan.asked)) given rest asked_up)
    (held_in_rest schema plan dim is_descending next regions held given rest fetched unread row over under here)
    (λ other there. none_before schema plan dim is_descending next regions held held_then given rest fetched unread row over under same least before_each asked_up other there) in
    let whole : (given ++ row ∷ []) ++ more ≡ given ++ rest = append_assoc given (row ∷ []) more ∙ ap (λ (rows : List Row). given ++ rows) (sym first) in
    record {
      more = more;
      next = first;
      under_way = record {
        events = under.events;
        rows = subst (λ (rows : List Row). AreArranged schema plan (selected_rows schema plan regions) rows) (sym whole) under.rows;
        held_are = IsPermutation-pop_more (selected_rows schema plan (regions_at fetched)) given held held_then row under.held_are same;
        held_past = all_of (λ event. All (λ row. ¬ (IsRowAlong dim is_descending row event.value)) held_then) fetched
            (λ event there. all_of (λ row. ¬ (IsRowAlong dim is_descending row event.value)) held_then
            (λ other c. All-contains (λ row. ¬ (IsRowAlong dim is_descending row event.value)) held other
            (All-contains (λ event. All (λ row. ¬ (IsRowAlong dim is_descending row event.value)) held) fetched event under.held_past there)
            (Contains-permutation (row ∷ held_then) held other (IsPermutation-sym held (row ∷ held_then) same) (contains_later row held_then other c))));
        given_before = all_of (λ event. All (λ row. IsRowAlong dim is_descending row event.value) (given ++ row ∷ [])) unread
            (λ event there. all_of (λ row. IsRowAlong dim is_descending row event.value) (given ++ row ∷ [])
            (λ other c. elim (Contains-append_cases given (row ∷ []) other c) [
              | inl old ↦ All-contains (λ row. IsRowAlong dim is_descending row event.value) given other
                  (All-contains (λ event. All (λ row. IsRowAlong dim is_descending row event.value) given) unread event under.given_before there) old
              | inr last ↦ only_one row other last (λ r. IsRowAlong dim is_descending r event.value) (before_each event there)
            ]));
      };
      reached = all_of (λ event. ¬ (IsRowAlong dim is_descending row event.value)) fetched
          (λ event there. All-contains (λ row. ¬ (IsRowAlong dim is_descending row event.value)) held row
          (All-contains (λ event. All (λ row. ¬ (IsRowAlong dim is_descending row event.value)) held) fetched event under.held_past there) here);
    }

no_elements : {E : Type 0} (xs : List E) → ((x : E) → ¬ (Contains xs x)) → xs ≡ []
no_elements [] none = refl
no_elements (x ∷ xs) none = absurd (none x (contains_here x xs))

-- where no row is held and no region is left, all rows were given
pub ends : (schema : Schema) (plan : PlanView) (dim : ℕ) (is_descending : Bool) (next : ℕ) (regions : List RegionRows) (given rest : List Row) (fetched : List Event)
    → IsSweepOver schema plan dim is_descending next regions → IsUnderWay schema plan dim is_descending regions [] given rest fetched [] → rest ≡ []
ends schema plan dim is_descending next regions given rest fetched over under =
    no_elements rest
    (λ row there.
    let up : Rising (IsRowBefore schema (keys_of plan.asked)) (given ++ rest) = Rising-from_adjacent (IsRowBefore schema (keys_of plan.asked)) (asked-chain schema (keys_of plan.asked)) (given ++ rest) under.rows.ordered in
    let (event, is_event, has, t) = row_in_event schema plan dim is_descending next regions (fetched ++ []) row over under.events
    (rest_selected schema plan dim is_descending regions [] given rest fetched [] row under there) in
    let was : Contains fetched event = subst (λ (events : List Event). Contains events event) (append-nil fetched) is_event in
    let gone : Contains given row = subst (λ (rows : List Row). Contains rows row) (append-nil given)
    (Contains-permutation (selected_rows schema plan (regions_at fetched)) (given ++ []) row under.held_are (in_fetched schema plan fetched event row was has t)) in
    asked-never schema (keys_of plan.asked) row (rising_apart (IsRowBefore schema (keys_of plan.asked)) given rest row row up gone there))

-- ---- where it stops

last_is : (dim : ℕ) (given : List Row) (row : Row) → last_of (coordinates dim (given ++ row ∷ [])) ≡ slice_index row.dims dim
last_is dim [] row = refl
last_is dim (first ∷ []) row = refl
last_is dim (first ∷ second ∷ given) row = last_is dim (second ∷ given) row

-- the regions that aren't past the last row given are those fetched
stops_at : (dim : ℕ) (is_descending : Bool) (given : List Row) (fetched unread : List Event) (row : Row)
    → All (λ event. ¬ (IsRowAlong dim is_descending row event.value)) fetched → ((event : Event) → Contains unread event → IsRowAlong dim is_descending row event.value)
    → StopsAt is_descending (coordinates dim (take (length (given ++ row ∷ [])) (given ++ row ∷ []))) fetched unread
stops_at dim is_descending given fetched unread row past before =
    let is : slice_index row.dims dim ≡ last_of (coordinates dim (take (length (given ++ row ∷ [])) (given ++ row ∷ []))) =
    sym (ap (λ (rows : List Row). last_of (coordinates dim rows)) (take_all (length (given ++ row ∷ [])) (given ++ row ∷ []) (omega arith)) ∙ last_is dim given row) in
    subst (λ (last : ℕ). AreUpTo is_descending fetched last × AllByRecursion (λ event. IsAlong is_descending last event.value) unread) is
    (recursion_from_All (λ event. ¬ (IsRowAlong dim is_descending row event.value)) fetched past, all_from_contains (λ event. IsRowAlong dim is_descending row event.value) unread before)

-- the limit was filled by a row: the regions fetched are the visits
pub stops : (schema : Schema) (plan : PlanView) (dim : ℕ) (is_descending : Bool) (regions : List RegionRows) (held given rest : List Row) (fetched unread : List Event) (row : Row)
    → IsUnderWay schema plan dim is_descending regions held (given ++ row ∷ []) rest fetched unread
    → plan.asked.limit ≡ Some (length (given ++ row ∷ []))
    → All (λ event. ¬ IsRowAlong dim is_descending row event.value) fetched
    → AreSweepVisits schema plan dim is_descending regions (map (λ event. event.span) fetched)
stops schema plan dim is_descending regions held given rest fetched unread row under filled reached =
    record {
      events = fetched ++ unread;
      events_are = under.events;
      arranged = (given ++ row ∷ []) ++ rest;
      arranged_are = under.rows;
      visits_are = ap (λ (events : List Event). map (λ (event : Event). event.span) events)
          (sym (reached_filled (λ (row : Row). slice_index row.dims dim) is_descending plan.asked.limit (length (given ++ row ∷ [])) (given ++ row ∷ []) rest fetched unread filled (omega arith)
          (stops_at dim is_descending given fetched unread row reached
          (λ event there. All-contains (λ row. IsRowAlong dim is_descending row event.value) (given ++ row ∷ []) row
          (All-contains (λ event. All (λ row. IsRowAlong dim is_descending row event.value) (given ++ row ∷ [])) unread event under.given_before there)
          (Contains-append_right given (row ∷ []) row (contains_here row []))))));
    }

-- fewer rows than the limit says, and no more to come
few_more : (limit : Option ℕ) (given : List Row) → IfSome limit (λ n. length given < n) → IfSome limit (λ n. length (given ++ []) < n)
few_more limit given short = subst (λ (rows : List Row). IfSome limit (λ n. length rows < n)) (sym (append-nil given)) short

-- no row is left, and the limit isn't filled: all regions are the visits
pub runs_out : (schema : Schema) (plan : PlanView) (dim : ℕ) (is_descending : Bool) (regions : List RegionRows) (held given : List Row) (fetched : List Event)
    → IsUnderWay schema plan dim is_descending regions held given [] fetched []
    → IfSome plan.asked.limit (λ n. length given < n)
    → AreSweepVisits schema plan dim is_descending regions (map (λ event. event.span) fetched)
runs_out schema plan dim is_descending regions held given fetched under short =
    record {
      events = fetched ++ [];
      events_are = under.events;
      arranged = given ++ [];
      arranged_are = under.rows;
      visits_are = ap (λ (events : List Event). map (λ (event : Event). event.span) events)
          (sym (reached_short (λ (row : Row). slice_index row.dims dim) is_descending plan.asked.limit (given ++ []) (fetched ++ []) (few_more plan.asked.limit given short) ∙ append-nil fetched));
    }

-- ---- where it is broken off

-- regions none of which is past a row that is asked for are the first of the visits
front_visits : (schema : Schema) (plan : PlanView) (dim : ℕ) (is_descending : Bool) (next : ℕ) (regions : List RegionRows) (front left : List Event) (given : List Row) (row : Row) (more : List Row)
    → IsSweepOver schema plan dim is_descending next regions → AreEvents schema plan.covering.boxes dim is_descending regions (front ++ left)
    → AreArranged schema plan (selected_rows schema plan regions) (given ++ row ∷ more) → IfSome plan.asked.limit (λ n. length given < n)
    → All (λ event. ¬ IsRowAlong dim is_descending row event.value) front
    → (later : List Event) × AreSweepVisits schema plan dim is_descending regions (map (λ event. event.span) (front ++ later))
front_visits schema plan dim is_descending next regions front left given row more over events rows short past =
    let order : List SortKey = keys_of plan.asked in
    let at : Row → ℕ = λ other. slice_index other.dims dim in
    let up : Rising (IsRowBefore schema order) (row ∷ more) =
    rising_right (IsRowBefore schema order) given (row ∷ more) (Rising-from_adjacent (IsRowBefore schema order) (asked-chain schema order) (given ++ row ∷ more) rows.ordered) in
    let led = led_plan schema plan dim is_descending over.planned over.kind in
    let after : AllByRecursion (λ other. IsUpTo is_descending (slice_index row.dims dim) (slice_index other.dims dim)) more =
    all_weaker (λ other. IsRowBefore schema order row other) (λ other. IsUpTo is_descending (slice_index row.dims dim) (slice_index other.dims dim))
    (λ other before along. asked-never schema order row (asked-chain schema order row other row before (along_before schema plan.asked dim is_descending other row led along))) more up.0 in
    let first : AreUpTo is_descending front (slice_index row.dims dim) = recursion_from_All (λ event. ¬ (IsRowAlong dim is_descending row event.value)) front past in
    let each : AllByRecursion (λ other. AreUpTo is_descending front (slice_index other.dims dim)) more =
    all_weaker (λ other. IsUpTo is_descending (slice_index row.dims dim) (slice_index other.dims dim)) (λ other. AreUpTo is_descending front (slice_index other.dims dim))
    (λ other up_to. all_weaker (λ event. IsUpTo is_descending event.value (slice_index row.dims dim)) (λ event. IsUpTo is_descending event.value (slice_index other.dims dim))
    (λ event before. up_to_chain is_descending event.value (slice_index row.dims dim) (slice_index other.dims dim) before up_to) front first) more after in
    let (later, is) = reached_front (λ (row : Row). slice_index row.dims dim) is_descending plan.asked.limit given (row ∷ more) front left short (first, each) in (
      later,
      record {
        events = front ++ left;
        events_are = events;
        arranged = given ++ row ∷ more;
        arranged_are = rows;
        visits_are = ap (λ (events : List Event). map (λ (event : Event). event.span) events) (sym is);
      },
    )

-- a sweep that was ended by a fault has fetched the first of the visits: where that came after a row,
pub broken_after : (schema : Schema) (plan : PlanView) (dim : ℕ) (is_descending : Bool) (next : ℕ) (regions : List RegionRows) (held given rest : List Row) (fetched unread : List Event) (row : Row)
    → IsSweepOver schema plan dim is_descending next regions → IsUnderWay schema plan dim is_descending regions held (given ++ row ∷ []) rest fetched unread
    → IfSome plan.asked.limit (λ n. length given < n) → All (λ event. ¬ IsRowAlong dim is_descending row event.value) fetched
    → (later : List Event) × AreSweepVisits schema plan dim is_descending regions (map (λ event. event.span) (fetched ++ later))
broken_after schema plan dim is_descending next regions held given rest fetched unread row over under short past =
    front_visits schema plan dim is_descending next regions fetched unread given row rest over under.events
    (subst (λ (rows : List Row). AreArranged schema plan (selected_rows schema plan regions) rows) (append_assoc given (row ∷ []) rest) under.rows) short past

-- and where it came while the next row was looked for
pub broken_before : (schema : Schema) (plan : PlanView) (dim : ℕ) (is_descending : Bool) (next : ℕ) (regions : List RegionRows) (held given rest : List Row) (fetched unread read left : List Event)
    → IsSweepOver schema plan dim is_descending next regions → IsUnderWay schema plan dim is_descending regions held given rest fetched unread
    → IfSome plan.asked.limit (λ n. length given < n) → unread ≡ read ++ left
    → ((row : Row) (more : List Row) → rest ≡ row ∷ more → All (λ event. ¬ IsRowAlong dim is_descending row event.value) read)
    → (later : List Event) × AreSweepVisits schema plan dim is_descending regions (map (λ event. event.span) ((fetched ++ read) ++ later))
broken_before schema plan dim is_descending next regions held given rest fetched unread read left over under short parts past =
    by_rest rest refl
  where
    events : AreEvents schema plan.covering.boxes dim is_descending regions ((fetched ++ read) ++ left)
    events = subst (λ (events : List Event). AreEvents schema plan.covering.boxes dim is_descending regions events) (ap (λ (events : List Event). fetched ++ events) parts ∙ sym (append_assoc fetched read left)) under.events

    by_rest : (rows : List Row) → rest ≡ rows → (later : List Event) × AreSweepVisits schema plan dim is_descending regions (map (λ event. event.span) ((fetched ++ read) ++ later))
    by_rest [] is = (
      left,
      record {
        events = (fetched ++ read) ++ left;
        events_are = events;
        arranged = given ++ [];
        arranged_are = subst (λ (rows : List Row). AreArranged schema plan (selected_rows schema plan regions) (given ++ rows)) is under.rows;
        visits_are = ap (λ (events : List Event). map (λ (event : Event). event.span) events) (sym (reached_short (λ (row : Row). slice_index row.dims dim) is_descending plan.asked.limit (given ++ []) ((fetched ++ read) ++ left) (few_more plan.asked.limit given short)));
      },
    )
    by_rest (row ∷ more) is =
        front_visits schema plan dim is_descending next regions (fetched ++ read) left given row more over events
        (subst (λ (rows : List Row). AreArranged schema plan (selected_rows schema plan regions) (given ++ rows)) is under.rows) short
        (all_of (λ event. ¬ (IsRowAlong dim is_descending row event.value)) (fetched ++ read)
        (λ event there. elim (Contains-append_cases fetched read event there) [
          | inl was ↦ All-contains (λ event. ¬ (IsRowAlong dim is_descending row event.value)) fetched event
              (rest_past schema plan dim is_descending next regions held given rest fetched unread row over under (subst (λ (rows : List Row). Contains rows row) (sym is) (contains_here row more))) was
          | inr now ↦ All-contains (λ event. ¬ (IsRowAlong dim is_descending row event.value)) read event (past row more is) now
        ]))

-- without GROUP BY the order in which rows are given is the order asked
rows_ordered : (schema : Schema) (group : List ℕ) (order : List SortKey) (rows : List Row) → group ≡ []
    → AllAdjacentBelow (IsRowBefore schema (swept_order group order)) rows (length rows) → AllAdjacentBelow (IsRowBefore schema order) rows (length rows)
rows_ordered schema [] order rows none ordered = ordered
rows_ordered schema (column ∷ group) order rows none ordered = absurd cc

limited_filled : (limit : Option ℕ) (given rest : List Row) → limit ≡ Some (length given) → limited limit (given ++ rest) ≡ given
limited_filled limit given rest filled = ap (λ (o : Option ℕ). limited o (given ++ rest)) filled ∙ take-append_seam given rest

limited_short : (limit : Option ℕ) (given : List Row) → IfSome limit (λ n. length given < n) → limited limit (given ++ []) ≡ given
limited_short None given short = append-nil given
limited_short (Some n) given short = ap (λ (rows : List Row). take n rows) (append-nil given) ∙ take_all n given (omega (arith, short))

given_mean : (schema : Schema) (plan : PlanView) (dim : ℕ) (is_descending : Bool) (next : ℕ) (regions : List RegionRows) (rows held given rest : List Row) (fetched unread : List Event)
    → IsSweepOver schema plan dim is_descending next regions → plan.asked.group ≡ [] → AreTableRows regions rows
    → IsUnderWay schema plan dim is_descending regions held given rest fetched unread
    → limited plan.asked.limit (given ++ rest) ≡ given
    → IsMeaning (record { schema = schema; rows = rows }) plan.asked (map (λ row. map (row_cell schema row) plan.asked.items) given)
given_mean schema plan dim is_descending next regions rows held given rest fetched unread over none table under limited_are = inr (
  plan_is_plain schema plan dim is_descending over.planned over.kind none,
  record {
    arranged = given ++ rest;
    ordered = record {
      same = IsPermutation-trans (selected (record { schema = schema; rows = rows }) plan.asked.filter) (selected_rows schema plan regions) (given ++ rest)
          (selected_of_table schema plan next regions rows under.events.meeting over.planned (led_asks schema plan dim is_descending over.planned over.kind) over.are table under.events.meeting_are)
          under.rows.same;
      ordered = rows_ordered schema plan.asked.group plan.asked.order (given ++ rest) none under.rows.ordered;
    };
    cells = ap (λ (rows : List Row). map (λ (row : Row). map (row_cell schema row) plan.asked.items) rows) (sym limited_are);
  },
)

-- what was given is then what the query means on the table
pub stops_with_the_meaning : (schema : Schema) (plan : PlanView) (dim : ℕ) (is_descending : Bool) (next : ℕ) (regions : List RegionRows) (rows held given rest : List Row) (fetched unread : List Event)
    → IsSweepOver schema plan dim is_descending next regions → plan.asked.group ≡ [] → AreTableRows regions rows
    → IsUnderWay schema plan dim is_descending regions held given rest fetched unread
    → plan.asked.limit ≡ Some (length given)
    → IsMeaning (record { schema = schema; rows = rows }) plan.asked (map (λ row. map (row_cell schema row) plan.asked.items) given)
stops_with_the_meaning schema plan dim is_descending next regions rows held given rest fetched unread over none table under filled =
    given_mean schema plan dim is_descending next regions rows held given rest fetched unread over none table under (limited_filled plan.asked.limit given rest filled)

pub runs_out_with_the_meaning : (schema : Schema) (plan : PlanView) (dim : ℕ) (is_descending : Bool) (next : ℕ) (regions : List RegionRows) (rows held given : List Row) (fetched unread : List Event)
    → IsSweepOver schema plan dim is_descending next regions → plan.asked.group ≡ [] → AreTableRows regions rows
    → IsUnderWay schema plan dim is_descending regions held given [] fetched unread
    → IfSome plan.asked.limit (λ n. length given < n)
    → IsMeaning (record { schema = schema; rows = rows }) plan.asked (map (λ row. map (row_cell schema row) plan.asked.items) given)
runs_out_with_the_meaning schema plan dim is_descending next regions rows held given fetched unread over none table under short =
    given_mean schema plan dim is_descending next regions rows held given [] fetched unread over none table under (limited_short plan.asked.limit given short)
