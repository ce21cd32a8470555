-- A sweep over a tree, one step after the other: how it stands after the next region was fetched, and after a row was taken.
use Rattle.std.proofs.Common.{◌≡◌, ℕ, List, [], ◌∷◌, ◌++◌, true, not, Option, Some, None, map, filter, slice_index, Contains, IsPermutation, inl, inr, refl, sym, ap, ◌∙◌, append_assoc, subst}
use Rattle.std.proofs.lemmas.Bool.{true≢false}
use Rattle.std.proofs.lemmas.List.{append-nil, map-append}
use Rattle.std.proofs.lemmas.List.Elements.{All-contains, All-nil, Contains-append_left, Contains-append_right}
use Rattle.std.proofs.lemmas.List.Sorted.{Contains-permutation, IsPermutation-map, IsPermutation-sym}
use Rattle.std.specs.List.{All, AllByRecursion}
use Rattle.ub_bigmin.specs.Box.{Corners}
use Rattle.ub_filter.proofs.Laws.{chosen_are_selected}
use Rattle.ub_filter.specs.Choice.{is_chosen}
use Rattle.ub_planning.specs.Plan.{PlanView}
use Rattle.ub_planning.specs.Visits.{Event, IsAlong, Span, is_past, spans_up_to}
use Rattle.ub_filter.specs.declared.choice.Choice.{Choice}
use Rattle.ub_query.proofs.Laws.{Rising-map, all_at, all_from_contains, all_permutation, contains_cases, contains_here, contains_later, contains_none, contains_from_map, contains_map}
use Rattle.ub_query.specs.Groups.{is_selected}
use Rattle.ub_query.specs.Order.{IsRowBefore}
use Rattle.ub_query.specs.declared.query.SortKey.{SortKey}
use Rattle.ub_region.proofs.Laws.{all_append}
use Rattle.ub_region.specs.Regions.{firsts_of, rows_of}
use Rattle.ub_store.specs.View.{Trace}
use Rattle.ub_table.proofs.Laws.{not_before_self}
use Rattle.ub_table.specs.Keys.{AreKeysAscending, IsBefore}
use Rattle.ub_table.specs.Region.{RegionRows}
use Rattle.ub_table.specs.declared.row.Key.{Key}
use Rattle.ub_table.specs.declared.row.Row.{Row}
use Rattle.ub_table.specs.declared.schema.Schema.{Schema}
use Rattle.ub_tetris.proofs.AlongFacts.{IsUpTo, along_before, along_up_to, led_asks, led_plan, keys_of, up_to_along}
use Rattle.ub_tetris.proofs.AheadFacts.{ahead_after, ahead_opened, ahead_same, first_event, first_up_to_event, none_ahead}
use Rattle.ub_tetris.proofs.BoxFacts.{have_dimension}
use Rattle.ub_tetris.proofs.ArrangeFacts.{all_of, rising_two}
use Rattle.ub_planning.proofs.Laws.{is_past_of, past_is}
use Rattle.ub_tetris.proofs.LargestFacts.{AreWithin, IsGoing, IsOpened, IsReached, IsWithin, at_rest, going, opened_then, within_traced, within_turned}
use Rattle.ub_tetris.proofs.MachineFacts.{IsBeforeNext, IsSweepOver, ends, fetches, gives}
use Rattle.ub_tetris.proofs.NearFacts.{never_before}
use Rattle.ub_tetris.proofs.OrderFacts.{held_before}
use Rattle.ub_tetris.proofs.ReachFacts.{event_span}
use Rattle.ub_tetris.proofs.SortedFacts.{keys_rise}
use Rattle.ub_tetris.specs.Held.{AreHeldBy, HeldRow, held_row, rows_held, values_by}
use Rattle.ub_tetris.specs.Machine.{IsRowAlong, IsUnderWay, regions_at}
use Rattle.ub_tetris.specs.Awaited.{AwaitedRegion, AwaitedStretch, HaveDimension, stretches_of}
use Rattle.ub_tetris.specs.Sweep.{AreAhead, AreNoted, HasEnded, HasGiven, HasStepped, IsAwaited, IsSweeping, SweepView}
use Rattle.ub_tetris.specs.inner.Kept.{HoldsAlso, IsFirstAmong, IsFirstOf, IsHeldBefore, TakesFirst}
use Rattle.ub_tetris.specs.inner.Turns.{HasComeTo, HasFetched, HasOpened, HasTakenNext, IsDue, IsNoneDue}
use Rattle.ub_tree.proofs.Laws.{Keeps-by}
use Rattle.ub_tree.specs.Placed.{Placed}
use Rattle.ub_tree.specs.Stretches.{ArePartsOf}
use Rattle.ub_tree.specs.View.{TreeView, regions}
use Rattle.ub_zaddr.specs.Address.{last_address}

pub sweep_over : (plan : PlanView) (t : TreeView) (s : SweepView) (given rest : List Row) (fetched unread : List Event) → IsGoing plan t s given rest fetched unread
    → IsSweepOver t.schema plan s.dim s.is_descending t.next (regions t)
sweep_over plan t s given rest fetched unread of = record { planned = of.swept.planned; kind = of.swept.kind; are = of.swept.sound.regions_are }

-- ---- the regions of a tree

-- regions that begin with one key are one region
same_region : (regions : List RegionRows) (a b : RegionRows) → AreKeysAscending (firsts_of regions) → Contains regions a → Contains regions b → a.first ≡ b.first → a ≡ b
same_region regions a b up left right same =
    elim (rising_two (λ (a : RegionRows) (b : RegionRows). IsBefore a.first b.first) regions a b (Rising-map (λ a b. IsBefore a b) (λ (region : RegionRows). region.first) regions (keys_rise (firsts_of regions) up)) left right) [
      | inl is ↦ is
      | inr (inl lt) ↦ absurd (not_before_self b.first (subst (λ (k : Key). IsBefore k b.first) same lt))
      | inr (inr lt) ↦ absurd (not_before_self b.first (subst (λ (k : Key). IsBefore b.first k) same lt))
    ]

span_region : (last : ℕ) (regions : List RegionRows) (span : Span) → Contains (spans_up_to last regions) span → Contains regions span.region
span_region last [] span there = absurd (contains_none span there)
span_region last (region ∷ regions) span there = elim (contains_cases _ (spans_up_to last regions) span there) [
  | inl same ↦ subst (λ (s : Span). Contains (region ∷ regions) s.region) same (contains_here region regions)
  | inr later ↦ contains_later region regions span.region (span_region last regions span later)
]

-- ---- rows that are held

pub rows_of_held : (schema : Schema) (keys : List SortKey) (rows : List Row) → rows_held (map (held_row schema keys) rows) ≡ rows
rows_of_held schema keys [] = refl
rows_of_held schema keys (row ∷ rows) = ap (λ (rows : List Row). row ∷ rows) (rows_of_held schema keys rows)

held_by_more : (schema : Schema) (keys : List SortKey) (held : List HeldRow) (rows : List Row) → AreHeldBy schema keys held → AreHeldBy schema keys (held ++ map (held_row schema keys) rows)
held_by_more schema keys [] [] all = tt
held_by_more schema keys [] (row ∷ rows) all = (refl, held_by_more schema keys [] rows tt)
held_by_more schema keys (h ∷ held) rows all = (all.0, held_by_more schema keys held rows all.1)

all_pushed : {E : Type 0} (P : E → Type 0) (xs : List E) (x : E) → AllByRecursion P xs → P x → AllByRecursion P (xs ++ x ∷ [])
all_pushed P [] x all is = (is, tt)
all_pushed P (y ∷ ys) x all is = (all.0, all_pushed P ys x all.1 is)

-- ---- a region is fetched

contains_within : {E : Type 0} (xs : List E) (x : E) (ys : List E) → Contains (xs ++ x ∷ ys) x
contains_within [] x ys = contains_here x ys
contains_within (y ∷ xs) x ys = contains_later y (xs ++ x ∷ ys) x (contains_within xs x ys)

-- the region on a page is that of the event
pub region_at : (plan : PlanView) (t : TreeView) (s : SweepView) (given rest : List Row) (fetched unread : List Event) (event : Event) (a : AwaitedRegion) (p : Placed)
    → IsGoing plan t s given rest fetched unread → Contains (fetched ++ unread) event → a.region.first ≡ event.span.region.first → Contains t.placed p → p.region.first ≡ a.region.first
    → p.region ≡ event.span.region
region_at plan t s given rest fetched unread event a p of among begins there first =
    same_region (regions t) p.region event.span.region of.swept.sound.regions_are.ascending
    (contains_map (λ (p : Placed). p.region) t.placed p there)
    (span_region (last_address t.schema.dims) (regions t) event.span
    (event_span t.schema plan.covering.boxes s.dim s.is_descending (regions t) (fetched ++ unread) event of.under_way.events among))
    (first ∙ begins)

pub event_region : (plan : PlanView) (t : TreeView) (s : SweepView) (given rest : List Row) (fetched left : List Event) (event : Event) (a : AwaitedRegion) (p : Placed)
    → IsGoing plan t s given rest fetched (event ∷ left) → IsAwaited t a event → Contains t.placed p → p.region.first ≡ a.region.first → p.region ≡ event.span.region
event_region plan t s given rest fetched left event a p of is_awaited there first =
    region_at plan t s given rest fetched (event ∷ left) event a p of (contains_within fetched event left) is_awaited.first there first

-- the page of one more region was noted
pub noted_more : (t new : TreeView) (events : List Event) (event : Event) (p : Placed) → AreNoted t events → new.placed ≡ t.placed → Contains t.placed p → p.region ≡ event.span.region
    → new.trace.pages ≡ t.trace.pages ++ p.page ∷ [] → AreNoted new (events ++ event ∷ [])
noted_more t new events event p noted placed there same trace = record {
  placed = noted.placed ++ p ∷ [];
  there = subst (λ (all : List Placed). AllByRecursion (Contains all) (noted.placed ++ p ∷ [])) (sym placed) (all_pushed (Contains t.placed) noted.placed p noted.there there);
  regions_are = map-append (λ (p : Placed). p.region) noted.placed (p ∷ [])
      ∙ ap (λ (rs : List RegionRows). rs ++ p.region ∷ []) noted.regions_are
      ∙ ap (λ (r : RegionRows). regions_at events ++ r ∷ []) same
      ∙ sym (map-append (λ (event : Event). event.span.region) events (event ∷ []));
  trace_is = trace
      ∙ ap (λ (pages : List ℕ). pages ++ p.page ∷ []) noted.trace_is
      ∙ sym (map-append (λ (p : Placed). p.page) noted.placed (p ∷ []));
}

rows_among : (regions : List RegionRows) (region : RegionRows) (row : Row) → Contains regions region → Contains region.rows row → Contains (rows_of regions) row
rows_among [] region row there here = absurd (contains_none region there)
rows_among (r ∷ regions) region row there here = elim (contains_cases r regions region there) [
  | inl same ↦ Contains-append_left r.rows (rows_of regions) row (subst (λ (x : RegionRows). Contains x.rows row) (sym same) here)
  | inr later ↦ Contains-append_right r.rows (rows_of regions) row (rows_among regions region row later here)
]

-- the rows of a page that are chosen are the selected ones
pub chosen_of : (plan : PlanView) (t : TreeView) (s : SweepView) (given rest : List Row) (fetched unread : List Event) (choice : Choice) (p : Placed) → IsGoing plan t s given rest fetched unread
    → Contains t.placed p → filter (is_chosen choice t.schema plan) p.region.rows ≡ filter (is_selected t.schema plan.asked.filter) p.region.rows
chosen_of plan t s given rest fetched unread choice p of there =
    ap (λ (x : PlanView). filter (is_chosen choice t.schema x) p.region.rows) of.swept.planned
    ∙ chosen_are_selected choice t.schema plan.asked t.next (regions t) p.region.rows (led_asks t.schema plan s.dim s.is_descending of.swept.planned of.swept.kind) of.swept.sound.regions_are
    (λ row here. rows_among (regions t) p.region row (contains_map (λ (p : Placed). p.region) t.placed p there) here)

module _ (plan : PlanView) (t : TreeView) (s : SweepView) (held_then : List HeldRow) (given rest : List Row) (fetched : List Event) (a : AwaitedRegion) (more : List AwaitedStretch) (trace : Trace) (p : Placed) where
  abbrev after : TreeView
  after = record t { trace = trace }

  fetched_next : (event : Event) (left : List Event) → IsGoing plan t s given rest fetched (event ∷ left) → IsAwaited t a event → AreAhead t plan.covering.boxes s.dim s.is_descending more left
      → AreWithin (IsOpened plan.covering.boxes s.dim s.is_descending s.held fetched (event ∷ left)) t plan.covering.boxes more
      → All (λ row. ¬ (IsRowAlong s.dim s.is_descending row a.value)) (rows_held s.held)
      → trace.pages ≡ t.trace.pages ++ a.region.page ∷ [] → Contains t.placed p → p.page ≡ a.region.page → p.region.first ≡ a.region.first
      → HoldsAlso t.schema (keys_of plan.asked) (filter (is_selected t.schema plan.asked.filter) p.region.rows) s.held held_then
      → IsGoing plan after (record s { held = held_then; awaited = more }) given rest (fetched ++ event ∷ []) left
  fetched_next event left of is_awaited are_ahead are_within past noted there page first holds =
      let chosen : List Row = filter (is_selected t.schema plan.asked.filter) p.region.rows in
      let same : p.region ≡ event.span.region = event_region plan t s given rest fetched left event a p of is_awaited there first in
      let rows : rows_held (s.held ++ map (held_row t.schema (keys_of plan.asked)) chosen) ≡ rows_held s.held ++ chosen =
      map-append (λ (h : HeldRow). h.row) s.held (map (held_row t.schema (keys_of plan.asked)) chosen) ∙ ap (λ (rows : List Row). rows_held s.held ++ rows) (rows_of_held t.schema (keys_of plan.asked) chosen) in
      let holds_rows : IsPermutation (rows_held s.held ++ chosen) (rows_held held_then) =
      subst (λ (rows : List Row). IsPermutation rows (rows_held held_then)) rows (IsPermutation-map (λ (h : HeldRow). h.row) (s.held ++ map (held_row t.schema (keys_of plan.asked)) chosen) held_then holds) in
      let under_way = fetches t.schema plan s.dim s.is_descending t.next (regions t) (rows_held s.held) (rows_held held_then) given rest fetched event left
      (sweep_over plan t s given rest fetched (event ∷ left) of) of.under_way
      (subst (λ (v : ℕ). All (λ row. ¬ (IsRowAlong s.dim s.is_descending row v)) (rows_held s.held)) is_awaited.value past)
      (subst (λ (region : RegionRows). IsPermutation (rows_held s.held ++ filter (is_selected t.schema plan.asked.filter) region.rows) (rows_held held_then)) same holds_rows) in
      let none_before = All-contains (λ (e : Event). All (λ row. ¬ (IsRowAlong s.dim s.is_descending row e.value)) (rows_held held_then)) (fetched ++ event ∷ []) event under_way.held_past
      (Contains-append_right fetched (event ∷ []) event (contains_here event [])) in
      record {
        working = of.working;
        swept = record { sound = (Keeps-by t after refl).sound of.swept.sound; planned = of.swept.planned; kind = of.swept.kind };
        under_way = under_way;
        values = all_permutation (λ (h : HeldRow). h.values ≡ values_by t.schema (keys_of plan.asked) h.row) (s.held ++ map (held_row t.schema (keys_of plan.asked)) chosen) held_then holds
            (held_by_more t.schema (keys_of plan.asked) s.held chosen of.values);
        noted = noted_more t after fetched event p of.noted refl there same (noted ∙ ap (λ (number : ℕ). t.trace.pages ++ number ∷ []) (sym page));
        awaited = ahead_after t plan.covering.boxes s.dim s.is_descending after more left refl are_ahead;
        within = within_turned (IsOpened plan.covering.boxes s.dim s.is_descending s.held fetched (event ∷ left))
            (IsOpened plan.covering.boxes s.dim s.is_descending held_then (fetched ++ event ∷ []) left) after plan.covering.boxes more
            (λ above told. opened_then plan.covering.boxes s.dim s.is_descending s.held held_then fetched event left none_before above)
            (within_traced (IsOpened plan.covering.boxes s.dim s.is_descending s.held fetched (event ∷ left)) t after plan.covering.boxes more refl refl are_within);
      }

-- the row that is the first of those held, by a search and by its removal
pub entry_past : (plan : PlanView) (t : TreeView) (s : SweepView) (given rest : List Row) (fetched unread : List Event) (h f : HeldRow) → IsGoing plan t s given rest fetched unread
    → Contains s.held h → Contains s.held f → ¬ (IsHeldBefore h f) → IsUpTo s.is_descending (slice_index f.row.dims s.dim) (slice_index h.row.dims s.dim)
entry_past plan t s given rest fetched unread h f of here there none along =
    none (held_before t.schema (keys_of plan.asked) h f
    (all_at (λ (h : HeldRow). h.values ≡ values_by t.schema (keys_of plan.asked) h.row) s.held h of.values here)
    (all_at (λ (h : HeldRow). h.values ≡ values_by t.schema (keys_of plan.asked) h.row) s.held f of.values there)
    (along_before t.schema plan.asked s.dim s.is_descending h.row f.row (led_plan t.schema plan s.dim s.is_descending of.swept.planned of.swept.kind) along))

-- where a stretch is due, no held row lies before its value
pub due_past : (plan : PlanView) (t : TreeView) (s : SweepView) (given rest : List Row) (fetched unread : List Event) (value : ℕ) → IsGoing plan t s given rest fetched unread
    → IsDue s value → All (λ row. ¬ (IsRowAlong s.dim s.is_descending row value)) (rows_held s.held)
due_past plan t s given rest fetched unread value of (None, none, due) =
    subst (λ (held : List HeldRow). All (λ row. ¬ (IsRowAlong s.dim s.is_descending row value)) (rows_held held)) (sym none)
    (All-nil (λ (row : Row). ¬ (IsRowAlong s.dim s.is_descending row value)))
due_past plan t s given rest fetched unread value of (Some row, (f, there, is, first), due) =
    let not_past : IsUpTo s.is_descending value (slice_index row.dims s.dim) =
    λ along. true≢false (due ∙ ap not (is_past_of s.is_descending (slice_index row.dims s.dim) value along)) in
    all_of (λ (row : Row). ¬ (IsRowAlong s.dim s.is_descending row value)) (rows_held s.held)
    (λ other c along.
    let (h, here, same) = contains_from_map (λ (h : HeldRow). h.row) s.held other c in
    let up_to = entry_past plan t s given rest fetched unread h f of here there (all_at (λ (other : HeldRow). ¬ (IsHeldBefore other f)) s.held h first here) in
    up_to (subst (λ (r : Row). IsAlong s.is_descending (slice_index r.dims s.dim) (slice_index f.row.dims s.dim)) (sym same)
    (subst (λ (r : Row). IsAlong s.is_descending (slice_index other.dims s.dim) (slice_index r.dims s.dim)) (sym is)
    (along_up_to s.is_descending (slice_index other.dims s.dim) value (slice_index row.dims s.dim) along not_past))))

-- where the first of those held is before a value, so is the row that is taken
taken_before : (plan : PlanView) (t : TreeView) (s : SweepView) (left : List HeldRow) (given rest : List Row) (fetched unread : List Event) (other row : Row) (value : ℕ)
    → IsGoing plan t s given rest fetched unread → IsFirstOf s.held (Some other) → is_past s.is_descending (slice_index other.dims s.dim) value ≡ true → TakesFirst s.held left (Some row)
    → IsRowAlong s.dim s.is_descending row value
taken_before plan t s left given rest fetched unread other row value of (f, there, is, first) past (g, same, is_row, least) =
    let along : IsAlong s.is_descending (slice_index f.row.dims s.dim) value =
    subst (λ (r : Row). IsAlong s.is_descending (slice_index r.dims s.dim) value) (sym is) (past_is s.is_descending (slice_index other.dims s.dim) value past) in
    let taken : Contains s.held g = Contains-permutation (g ∷ left) s.held g (IsPermutation-sym s.held (g ∷ left) same) (contains_here g left) in
    subst (λ (r : Row). IsRowAlong s.dim s.is_descending r value) is_row
    (elim (contains_cases g left f (Contains-permutation s.held (g ∷ left) f same there)) [
      | inl one ↦ subst (λ (h : HeldRow). IsAlong s.is_descending (slice_index h.row.dims s.dim) value) (sym one) along
      | inr later ↦ up_to_along s.is_descending (slice_index g.row.dims s.dim) (slice_index f.row.dims s.dim) value
          (entry_past plan t s given rest fetched unread f g of there taken (all_at (λ (other : HeldRow). ¬ (IsHeldBefore other g)) left f least later)) along
    ])

-- ---- a stretch is come to

-- the first of those awaited was taken out, and is to be come to
pub sweeping_taken : (plan : PlanView) (t : TreeView) (s s_then : SweepView) (next : AwaitedStretch) (given rest : List Row) (fetched unread : List Event) → IsGoing plan t s given rest fetched unread
    → HasTakenNext s s_then next → AreAhead t plan.covering.boxes s.dim s.is_descending (next ∷ s_then.awaited) unread
sweeping_taken plan t s s_then next given rest fetched unread of taken = ahead_same t plan.covering.boxes s.dim s.is_descending s.awaited (next ∷ s_then.awaited) unread taken.parts of.awaited

-- the boxes of its plan have its dimension
dimension_there : (plan : PlanView) (t : TreeView) (s : SweepView) (given rest : List Row) (fetched unread : List Event) → IsGoing plan t s given rest fetched unread → HaveDimension s.dim plan.covering.boxes
dimension_there plan t s given rest fetched unread of = have_dimension t.schema plan s.dim s.is_descending of.swept.planned of.swept.kind

pub parts_given : (plan : PlanView) (t new : TreeView) (s new_s : SweepView) (next : AwaitedStretch) (opened : HasOpened plan t new s new_s next) → HaveDimension s.dim plan.covering.boxes
    → ArePartsOf t plan.covering.boxes next.stretch (stretches_of opened.queued)
parts_given plan t new s new_s next opened dims = elim opened.parts [
  | inl parts ↦ parts
  | inr none ↦ absurd (none.1 dims)
]

-- what came of it is still ahead
still_ahead : (plan : PlanView) (t new : TreeView) (s s_then new_s : SweepView) (next : AwaitedStretch) (given rest : List Row) (fetched unread : List Event) → IsGoing plan t s given rest fetched unread
    → HasTakenNext s s_then next → HasOpened plan t new s_then new_s next → AreAhead new plan.covering.boxes s.dim s.is_descending new_s.awaited unread
still_ahead plan t new s s_then new_s next given rest fetched unread of taken opened =
    let dim_is : s_then.dim ≡ s.dim = ap (λ (v : SweepView). v.dim) taken.same in
    let down_is : s_then.is_descending ≡ s.is_descending = ap (λ (v : SweepView). v.is_descending) taken.same in
    subst (λ (v : TreeView). AreAhead v plan.covering.boxes s.dim s.is_descending new_s.awaited unread) (sym opened.same)
    (ahead_opened t of.swept.sound plan.covering.boxes s.dim s.is_descending fetched unread of.under_way.events next s_then.awaited opened.queued new_s.awaited opened.now_are
    (rw (← dim_is, ← down_is) opened.valued)
    (parts_given plan t new s_then new_s next opened (rw dim_is (dimension_there plan t s given rest fetched unread of)))
    (sweeping_taken plan t s s_then next given rest fetched unread of taken))

view_then : (s s_then new_s : SweepView) (next : AwaitedStretch) → HasTakenNext s s_then next → new_s ≡ record s_then { held = new_s.held; awaited = new_s.awaited }
    → new_s ≡ record s { held = new_s.held; awaited = new_s.awaited }
view_then s s_then new_s next taken is = is ∙ ap (λ (v : SweepView). record v { held = new_s.held; awaited = new_s.awaited }) taken.same

held_then_is : (s s_then : SweepView) (next : AwaitedStretch) → HasTakenNext s s_then next → s_then.held ≡ s.held
held_then_is s s_then next taken = ap (λ (v : SweepView). v.held) taken.same

module _ (plan : PlanView) (t new : TreeView) (s s_then new_s : SweepView) (next : AwaitedStretch) (rows given rest : List Row) (fetched unread : List Event) (of : IsGoing plan t s given rest fetched unread)
    (taken : HasTakenNext s s_then next) (come : HasComeTo plan t new s_then new_s next rows) where
  view_is : new_s ≡ record s { held = new_s.held; awaited = new_s.awaited }
  view_is = view_then s s_then new_s next taken come.view_is

  -- its parts are within one that is reached
  parts_within : IsDue s next.value → (opened : HasOpened plan t new s_then new_s next)
      → AreWithin (IsOpened plan.covering.boxes s.dim s.is_descending s.held fetched unread) t plan.covering.boxes opened.queued
  parts_within due opened =
      let boxes : List Corners = plan.covering.boxes in
      let ahead = sweeping_taken plan t s s_then next given rest fetched unread of taken in
      let reached : IsReached boxes s.dim s.is_descending s.held unread next.stretch = record {
        value = next.value;
        first = ahead.valued.0;
        past = due_past plan t s given rest fetched unread next.value of due;
        later = λ event there.
            first_up_to_event t of.swept.sound boxes s.dim s.is_descending fetched unread of.under_way.events next (next ∷ s_then.awaited) event ahead
            (never_before s.is_descending next, taken.first) there;
      } in
      let dim_is : s_then.dim ≡ s.dim = ap (λ (v : SweepView). v.dim) taken.same in
      let parts = parts_given plan t new s_then new_s next opened (rw dim_is (dimension_there plan t s given rest fetched unread of)) in
      all_from_contains (λ (a : AwaitedStretch). IsWithin (IsOpened boxes s.dim s.is_descending s.held fetched unread) t boxes a.stretch) opened.queued
      (λ a there. inr (next.stretch, ahead.told.0, inr reached, stretches_of opened.queued, parts, contains_map (λ (b : AwaitedStretch). b.stretch) opened.queued a there))

  abbrev Within : AwaitedStretch → Type 0
  Within a = IsWithin (IsOpened plan.covering.boxes s.dim s.is_descending s.held fetched unread) t plan.covering.boxes a.stretch

  -- those awaited then are within such ones, or within those that were opened before
  opened_within : IsDue s next.value → HasOpened plan t new s_then new_s next
      → AreWithin (IsOpened plan.covering.boxes s.dim s.is_descending s.held fetched unread) t plan.covering.boxes new_s.awaited
  opened_within due opened =
      all_permutation Within (s_then.awaited ++ opened.queued) new_s.awaited opened.now_are
      (all_append Within s_then.awaited opened.queued (all_permutation Within s.awaited (next ∷ s_then.awaited) taken.parts of.within).1 (parts_within due opened))

  opened_step : IsDue s next.value → HasOpened plan t new s_then new_s next → IsGoing plan new new_s given rest fetched unread
  opened_step due opened =
      let held_is : new_s.held ≡ s.held = opened.held ∙ held_then_is s s_then next taken in
      let at_t : IsGoing plan t (record s { held = new_s.held; awaited = new_s.awaited }) given rest fetched unread = record {
        working = of.working;
        swept = of.swept;
        under_way = subst (λ (held : List HeldRow). IsUnderWay t.schema plan s.dim s.is_descending (regions t) (rows_held held) given rest fetched unread) (sym held_is) of.under_way;
        values = subst (λ (held : List HeldRow). AreHeldBy t.schema (keys_of plan.asked) held) (sym held_is) of.values;
        noted = of.noted;
        awaited = subst (λ (v : TreeView). AreAhead v plan.covering.boxes s.dim s.is_descending new_s.awaited unread) opened.same
            (still_ahead plan t new s s_then new_s next given rest fetched unread of taken opened);
        within = subst (λ (held : List HeldRow). AreWithin (IsOpened plan.covering.boxes s.dim s.is_descending held fetched unread) t plan.covering.boxes new_s.awaited) (sym held_is)
            (opened_within due opened);
      } in
      subst (λ (v : TreeView). IsGoing plan v new_s given rest fetched unread) (sym opened.same)
      (subst (λ (v : SweepView). IsGoing plan t v given rest fetched unread) (sym view_is) at_t)

  fetched_step : IsDue s next.value → new_s.awaited ≡ s_then.awaited → HasFetched plan t new next rows → HoldsAlso t.schema (keys_of plan.asked) rows s_then.held new_s.held
      → (event : Event) × (left : List Event) × (unread ≡ event ∷ left) × IsGoing plan new new_s given rest (fetched ++ event ∷ []) left
  fetched_step due still has holds =
      let a : AwaitedRegion = record { value = next.value; region = next.stretch.span } in
      let (event, left, parts, is_awaited, is_ahead) =
      first_event t of.swept.sound plan.covering.boxes s.dim s.is_descending fetched unread of.under_way.events next s_then.awaited
      (sweeping_taken plan t s s_then next given rest fetched unread of taken) has.read.lowest taken.first in
      let (p, there, page, is) = has.read.stands of.swept.sound is_awaited.there in
      let begins : p.region.first ≡ next.stretch.span.first = ap (λ (r : RegionRows). r.first) is ∙ has.read.first in
      let chosen : rows ≡ filter (is_selected t.schema plan.asked.filter) p.region.rows =
      has.rows_are ∙ ap (λ (r : RegionRows). filter (is_chosen has.choice t.schema plan) r.rows) (sym is) ∙ chosen_of plan t s given rest fetched unread has.choice p of there in
      let from : HoldsAlso t.schema (keys_of plan.asked) rows s.held new_s.held =
      subst (λ (held : List HeldRow). HoldsAlso t.schema (keys_of plan.asked) rows held new_s.held) (held_then_is s s_then next taken) holds in
      let selected = subst (λ (rs : List Row). HoldsAlso t.schema (keys_of plan.asked) rs s.held new_s.held) chosen from in
      let of_next : IsGoing plan t s given rest fetched (event ∷ left) = subst (λ (events : List Event). IsGoing plan t s given rest fetched events) parts of in
      let are_within = (all_permutation (λ (b : AwaitedStretch). IsWithin (IsOpened plan.covering.boxes s.dim s.is_descending s.held fetched (event ∷ left)) t plan.covering.boxes b.stretch)
      s.awaited (next ∷ s_then.awaited) taken.parts of_next.within).1 in
      let after = fetched_next plan t s new_s.held given rest fetched a s_then.awaited new.trace p event left of_next is_awaited is_ahead are_within
      (due_past plan t s given rest fetched unread next.value of due) has.read.noted.pages_are there page begins selected in (
        event,
        left,
        parts,
        subst (λ (tree : TreeView). IsGoing plan tree new_s given rest (fetched ++ event ∷ []) left) (sym has.read.same)
            (subst (λ (v : SweepView). IsGoing plan (record t { trace = new.trace }) v given rest (fetched ++ event ∷ []) left)
            (sym (view_is ∙ ap (λ (those : List AwaitedStretch). record s { held = new_s.held; awaited = those }) still)) after),
      )

  -- no region was fetched, or the next one
  pub come_step : IsDue s next.value → HoldsAlso t.schema (keys_of plan.asked) rows s_then.held new_s.held
      → (read left : List Event) × (unread ≡ read ++ left) × IsGoing plan new new_s given rest (fetched ++ read) left
  come_step due holds = elim come.how [
    | inl opened ↦ ([], unread, refl, subst (λ (events : List Event). IsGoing plan new new_s given rest events unread) (sym (append-nil fetched)) (opened_step due opened.0))
    | inr has ↦ let (event, left, parts, next_step) = fetched_step due has.0 has.1 holds in (event ∷ [], left, parts, next_step)
  ]

-- ---- a row is taken

all_at_rest : (keys : List SortKey) (schema : Schema) (g : HeldRow) (left : List HeldRow) → AreHeldBy schema keys (g ∷ left) → IsFirstAmong g left
    → All (λ other. ¬ (IsRowBefore schema keys other g.row)) (rows_held left)
all_at_rest keys schema g left values least =
    all_of (λ (other : Row). ¬ (IsRowBefore schema keys other g.row)) (rows_held left)
    (λ other c before.
    let (h, here, same) = contains_from_map (λ (h : HeldRow). h.row) left other c in
    all_at (λ (h : HeldRow). ¬ (IsHeldBefore h g)) left h least here
    (held_before schema keys h g (all_at (λ (h : HeldRow). h.values ≡ values_by schema keys h.row) left h values.1 here) values.0
    (subst (λ (r : Row). IsRowBefore schema keys r g.row) (sym same) before)))

-- the first of those held was taken, where it lies before the value of the next region: it is the next row
pub taken_next : (plan : PlanView) (t : TreeView) (s : SweepView) (left : List HeldRow) (given rest : List Row) (fetched unread : List Event) (row : Row) → IsSweeping plan t s given rest fetched unread
    → TakesFirst s.held left (Some row) → IsBeforeNext s.dim s.is_descending row unread
    → (more : List Row) × (rest ≡ row ∷ more) × All (λ event. ¬ (IsRowAlong s.dim s.is_descending row event.value)) fetched
    × IsSweeping plan t (record s { held = left }) (given ++ row ∷ []) more fetched unread
taken_next plan t s left given rest fetched unread row of (g, same, is_row, least) before =
    let order : List SortKey = keys_of plan.asked in
    let values : AreHeldBy t.schema order (g ∷ left) = all_permutation (λ (h : HeldRow). h.values ≡ values_by t.schema order h.row) s.held (g ∷ left) same of.values in
    let rows : IsPermutation (rows_held s.held) (row ∷ rows_held left) =
    subst (λ (r : Row). IsPermutation (rows_held s.held) (r ∷ rows_held left)) is_row (IsPermutation-map (λ (h : HeldRow). h.row) s.held (g ∷ left) same) in
    let given_row = gives t.schema plan s.dim s.is_descending t.next (regions t) (rows_held s.held) (rows_held left) given rest fetched unread row
    (sweep_over plan t s given rest fetched unread (going of)) of.under_way rows
    (subst (λ (r : Row). All (λ other. ¬ (IsRowBefore t.schema order other r)) (rows_held left)) is_row (all_at_rest order t.schema g left values least)) before in (
      given_row.more,
      given_row.next,
      given_row.reached,
      record { working = of.working; swept = of.swept; under_way = given_row.under_way; values = values.1; noted = of.noted; awaited = of.awaited; largest = of.largest },
    )

taken : (plan : PlanView) (t : TreeView) (s : SweepView) (left : List HeldRow) (given rest : List Row) (fetched unread : List Event) (row : Row) → IsSweeping plan t s given rest fetched unread
    → TakesFirst s.held left (Some row) → IsBeforeNext s.dim s.is_descending row unread → HasGiven plan t (record s { held = left }) given rest fetched unread row
taken plan t s left given rest fetched unread row of takes before =
    let (more, next, reached, sweeping) = taken_next plan t s left given rest fetched unread row of takes before in
    let none : fetched ++ [] ≡ fetched = append-nil fetched in
    record {
      more = more;
      read = [];
      left = unread;
      next = next;
      parts = refl;
      reached = subst (λ (events : List Event). All (λ event. ¬ (IsRowAlong s.dim s.is_descending row event.value)) events) (sym none) reached;
      sweeping = subst (λ (events : List Event). IsSweeping plan t (record s { held = left }) (given ++ row ∷ []) more events unread) (sym none) sweeping;
    }

-- nothing is held and nothing awaited
ended : (plan : PlanView) (t : TreeView) (s : SweepView) (given rest : List Row) (fetched : List Event) → IsSweeping plan t s given rest fetched [] → s.held ≡ []
    → HasEnded plan t s given rest fetched []
ended plan t s given rest fetched of none =
    let all_given : rest ≡ [] = ends t.schema plan s.dim s.is_descending t.next (regions t) given rest fetched (sweep_over plan t s given rest fetched [] (going of))
    (subst (λ (held : List HeldRow). IsUnderWay t.schema plan s.dim s.is_descending (regions t) (rows_held held) given rest fetched []) none of.under_way) in
    record {
      none = all_given;
      sweeping = subst (λ (events : List Event). IsSweeping plan t s given [] events []) (sym (append-nil fetched))
          (subst (λ (rows : List Row). IsSweeping plan t s given rows fetched []) all_given of);
    }

not_empty : {E : Type 0} (xs : List E) (x : E) → Contains xs x → xs ≡ [] → ⊥
not_empty xs x there none = contains_none x (subst (λ (ys : List _). Contains ys x) none there)

-- the row that is taken lies before the first event that is left
before_next : (plan : PlanView) (t : TreeView) (s : SweepView) (left : List HeldRow) (given rest : List Row) (fetched unread : List Event) (row : Row) → IsGoing plan t s given rest fetched unread
    → IsNoneDue s → TakesFirst s.held left (Some row) → IsBeforeNext s.dim s.is_descending row unread
before_next plan t s left given rest fetched [] row of none takes = tt
before_next plan t s left given rest fetched (event ∷ unread) row of (inl none) takes =
    let bad : event ∷ unread ≡ [] = none_ahead t plan.covering.boxes s.dim s.is_descending s.awaited (event ∷ unread) none of.awaited in absurd cc
before_next plan t s left given rest fetched (event ∷ unread) row of (inr (next, there, first, other, is_first, past)) takes =
    along_up_to s.is_descending (slice_index row.dims s.dim) next.value event.value (taken_before plan t s left given rest fetched (event ∷ unread) other row next.value of is_first past takes)
    (first_up_to_event t of.swept.sound plan.covering.boxes s.dim s.is_descending fetched (event ∷ unread) of.under_way.events next s.awaited event of.awaited first (contains_here event unread))

-- no stretch is due, and the first of those held was taken
pub last_step : (plan : PlanView) (t : TreeView) (s new_s : SweepView) (given rest : List Row) (fetched unread : List Event) (row : Option Row) → IsGoing plan t s given rest fetched unread
    → IsNoneDue s → TakesFirst s.held new_s.held row → new_s ≡ record s { held = new_s.held } → HasStepped plan t new_s given rest fetched unread row
last_step plan t s new_s given rest fetched unread row of none takes same =
    subst (λ (v : SweepView). HasStepped plan t v given rest fetched unread row) (sym same) (took row none takes)
  where
    took : (row : Option Row) → IsNoneDue s → TakesFirst s.held new_s.held row → HasStepped plan t (record s { held = new_s.held }) given rest fetched unread row
    took (Some row) none takes = taken plan t s new_s.held given rest fetched unread row (at_rest plan t s given rest fetched unread of none) takes (before_next plan t s new_s.held given rest fetched unread row of none takes)
    took None (inl none) (empty, still) =
        let no_more : unread ≡ [] = none_ahead t plan.covering.boxes s.dim s.is_descending s.awaited unread none of.awaited in
        subst (λ (events : List Event). HasEnded plan t (record s { held = new_s.held }) given rest fetched events) (sym no_more)
        (subst (λ (held : List HeldRow). HasEnded plan t (record s { held = held }) given rest fetched []) (empty ∙ sym still)
        (ended plan t s given rest fetched (subst (λ (events : List Event). IsSweeping plan t s given rest fetched events) no_more (at_rest plan t s given rest fetched unread of (inl none))) empty))
    took None (inr (next, there, first, other, is_first, past)) (empty, still) = absurd (not_empty s.held is_first.0 is_first.1 empty)

-- a step after some regions were fetched is one from before them
pub chain_step : (plan : PlanView) (t : TreeView) (s : SweepView) (given rest : List Row) (fetched read left unread : List Event) (row : Option Row) → unread ≡ read ++ left
    → HasStepped plan t s given rest (fetched ++ read) left row → HasStepped plan t s given rest fetched unread row
chain_step plan t s given rest fetched read left unread None parts step =
    let whole : (fetched ++ read) ++ left ≡ fetched ++ unread = append_assoc fetched read left ∙ ap (λ (events : List Event). fetched ++ events) (sym parts) in
    record { none = step.none; sweeping = subst (λ (events : List Event). IsSweeping plan t s given [] events []) whole step.sweeping }
chain_step plan t s given rest fetched read left unread (Some row) parts step =
    let whole : (fetched ++ read) ++ step.read ≡ fetched ++ (read ++ step.read) = append_assoc fetched read step.read in
    record {
      more = step.more;
      read = read ++ step.read;
      left = step.left;
      next = step.next;
      parts = parts ∙ ap (λ (events : List Event). read ++ events) step.parts ∙ sym (append_assoc read step.read step.left);
      reached = subst (λ (events : List Event). All (λ event. ¬ (IsRowAlong s.dim s.is_descending row event.value)) events) whole step.reached;
      sweeping = subst (λ (events : List Event). IsSweeping plan t s (given ++ row ∷ []) step.more events step.left) whole step.sweeping;
    }
