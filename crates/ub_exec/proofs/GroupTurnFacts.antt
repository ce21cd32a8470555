-- A sweep of groups over a sound tree, turn by turn: what it has fetched, what it answers, and where it is broken off.
use Rattle.std.proofs.Common.{◌≡◌, ◌≢◌, ◌<◌, ◌≤◌, ◌∙◌, ℕ, zero, suc, Bool, List, [], ◌∷◌, ◌++◌, Option, Some, None, IfSome, Ok, Contains, IsPermutation, filter, length, map, take, inl, inr, refl, sym, ap, subst, arith, append_assoc}
use Rattle.std.proofs.lemmas.List.Elements.{All-contains, All-from_recursion, recursion_from_All, Contains-append_left, Contains-append_right}
use Rattle.std.proofs.lemmas.List.Sorted.{Contains-permutation, IsPermutation-sym}
use Rattle.std.specs.List.{All, AllByRecursion}
use Rattle.std.specs.Option.{option_map}
use Rattle.ub_answer.specs.Shaped.{HaveOneWidth, IsShaped}
use Rattle.ub_exec.proofs.FirstFacts.{swept_first}
use Rattle.ub_exec.proofs.GivenFacts.{all_selected, at}
use Rattle.ub_exec.proofs.GroupSweptFacts.{HasGrouped, HasGrouped-none, HasGrouped-more, HasReached, IsNextValue, is_short, lines_full, value_behind}
use Rattle.ub_exec.proofs.GroupVisitFacts.{ended_meant, ended_visits, filled_meant, filled_visits, front_visits, group_lines}
use Rattle.ub_exec.proofs.LedFacts.{IsLedBy, led_by, no_sweep, none_before_first}
use Rattle.ub_exec.proofs.MeantFacts.{empty_where}
use Rattle.ub_exec.proofs.NotedFacts.{all_joined}
use Rattle.ub_exec.proofs.SweptFacts.{swept_kind, visits_fetched}
use Rattle.ub_exec.specs.Answers.{IsAnswer, IsReady, IsSwept, begun}
use Rattle.ub_exec.specs.Reading.{IsFilled}
use Rattle.ub_exec.specs.Visits.{HasFetched, HasFetchedFirst, fetches_then}
use Rattle.ub_planning.proofs.Laws.{AreUpTo, regions_have_a_table, up_to_chain}
use Rattle.ub_planning.specs.Plan.{PlanView, plan_of}
use Rattle.ub_planning.specs.Visits.{AreArranged, AreEvents, AreGroupVisits, AreSweptVisits, AreVisits, AreVisitsBy, Event, IsAlong, selected_rows}
use Rattle.ub_planning.specs.Visits as spec
use Rattle.ub_planning.specs.declared.planned.Kind.{Kind}
use Rattle.ub_planning.specs.declared.planned.Kind.TheVariants.{Sweep}
use Rattle.ub_query.proofs.Laws.{all_at, all_from_contains, all_weaker, contains_from_filter, contains_here, groups_follow_the_lead}
use Rattle.ub_query.specs.Groups.{AreGroups, is_selected}
use Rattle.ub_query.specs.Laws.{GroupsFollowTheLead}
use Rattle.ub_query.specs.Lead.{AreGroupsInOrder}
use Rattle.ub_query.specs.Meaning.{IsMeaning, limited}
use Rattle.ub_query.specs.Posed.{IsPosed}
use Rattle.ub_query.specs.Shape.{Asked}
use Rattle.ub_query.specs.declared.cell.Cell.{Cell}
use Rattle.ub_query.specs.Cells.{Group}
use Rattle.ub_region.specs.Regions.{rows_of}
use Rattle.ub_table.specs.Region.{RegionRows}
use Rattle.ub_table.specs.Table.{IsInOrder}
use Rattle.ub_table.specs.declared.row.Row.{Row}
use Rattle.ub_table.specs.declared.schema.Schema.{Schema}
use Rattle.ub_tetris.specs.Machine.{IsRowAlong}
use Rattle.ub_tetris.specs.Calls.{GivesValue}
use Rattle.ub_tetris.specs.Sweep.{SweepView, IsSweeping, HasBegun, HasBroken, HasEnded, HasGivenValue, HasSteppedValue}
use Rattle.ub_tree.proofs.Laws.{Keeps}
use Rattle.ub_tree.specs.Placed.{Placed, regions_in}
use Rattle.ub_tree.specs.View.{TreeView, IsSound, regions}

-- the visits of a sweep of groups are the plan's
pub group_visits : (plan : PlanView) (dim : ℕ) (is_descending : Bool) (schema : Schema) (regions : List RegionRows) (visits : List spec.Span) → plan.kind ≡ Sweep dim is_descending → plan.asked.group ≢ []
    → AreGroupVisits schema plan dim is_descending regions visits → AreVisits schema plan regions visits
group_visits plan dim is_descending schema regions visits kind some are =
    subst (λ (kind : Kind). AreVisitsBy kind schema plan regions visits) (sym kind) (by_group plan.asked.group some are)
  where
    by_group : (group : List ℕ) → group ≢ [] → AreGroupVisits schema plan dim is_descending regions visits → AreSweptVisits group schema plan dim is_descending regions visits
    by_group [] some are = absurd (some refl)
    by_group (column ∷ group) some are = are

-- there is one way in which a plan sweeps
one_way : (kind : Kind) (a c : ℕ) (b d : Bool) → kind ≡ Sweep a b → kind ≡ Sweep c d → (a ≡ c) × (b ≡ d)
one_way kind a c b d first second = let same : Sweep a b ≡ Sweep c d = sym first ∙ second in (cc, cc)

pub record HasSweptGroups (plan : PlanView) (start t : TreeView) (dim : ℕ) (is_descending : Bool) (s : SweepView) (cells : List (List Cell)) : Type 0 where
  pub given : List Row
  pub rest : List Row
  pub fetched : List Event
  pub unread : List Event
  pub sweeping : IsSweeping plan t s given rest fetched unread
  pub grouped : HasGrouped start.schema plan dim is_descending (regions start) given rest fetched unread cells

pub HasSweptGroups-none : (plan : PlanView) (start t : TreeView) (dim : ℕ) (is_descending : Bool) (s : SweepView) → plan.asked.group ≢ [] → HasBegun plan t s
    → HasSweptGroups plan start t dim is_descending s []
HasSweptGroups-none plan start t dim is_descending s some begins = record {
  given = [];
  rest = begins.rest;
  fetched = [];
  unread = begins.unread;
  sweeping = begins.sweeping;
  grouped = HasGrouped-none start.schema plan dim is_descending (regions start) begins.rest begins.unread some;
}

-- ---- what a sweep says of the tree as it was at the start

module _ (plan : PlanView) (start t : TreeView) (dim : ℕ) (is_descending : Bool) (s : SweepView) (given rest : List Row) (fetched unread : List Event) (kept : Keeps start t)
    (kind : plan.kind ≡ Sweep dim is_descending) (sweeping : IsSweeping plan t s given rest fetched unread) where
  way : (s.dim ≡ dim) × (s.is_descending ≡ is_descending)
  way = one_way plan.kind s.dim dim s.is_descending is_descending sweeping.swept.kind kind

  selected_at : IsPermutation (filter (is_selected start.schema plan.asked.filter) (rows_of (regions start))) (given ++ rest)
  selected_at =
      subst (λ (placed : List Placed). IsPermutation (selected_rows start.schema plan (regions_in placed)) (given ++ rest)) kept.regions.placed
      (subst (λ (schema : Schema). IsPermutation (selected_rows schema plan (regions t)) (given ++ rest)) kept.regions.schema sweeping.under_way.rows.same)

  arranged_at : AreArranged start.schema plan (selected_rows t.schema plan (regions t)) (given ++ rest)
  arranged_at = subst (λ (schema : Schema). AreArranged schema plan (selected_rows t.schema plan (regions t)) (given ++ rest)) kept.regions.schema sweeping.under_way.rows

  pub events_at : AreEvents start.schema plan.covering.boxes dim is_descending (regions start) (fetched ++ unread)
  events_at =
      subst (λ (placed : List Placed). AreEvents start.schema plan.covering.boxes dim is_descending (regions_in placed) (fetched ++ unread)) kept.regions.placed
      (subst (λ (schema : Schema). AreEvents schema plan.covering.boxes dim is_descending (regions t) (fetched ++ unread)) kept.regions.schema
      (subst (λ (down : Bool). AreEvents t.schema plan.covering.boxes dim down (regions t) (fetched ++ unread)) way.1
      (subst (λ (d : ℕ). AreEvents t.schema plan.covering.boxes d s.is_descending (regions t) (fetched ++ unread)) way.0 sweeping.under_way.events)))

-- the rows of the next value were given
module _ (plan : PlanView) (start new : TreeView) (dim : ℕ) (is_descending : Bool) (new_s : SweepView) (given rest : List Row) (fetched unread : List Event) (rows : List Row) (kept : Keeps start new)
    (kind : plan.kind ≡ Sweep dim is_descending) (gives : HasGivenValue plan new new_s given rest fetched unread rows) where
  ways : (new_s.dim ≡ dim) × (new_s.is_descending ≡ is_descending)
  ways = one_way plan.kind new_s.dim dim new_s.is_descending is_descending gives.sweeping.swept.kind kind

  next_value : IsNextValue dim is_descending rest rows gives.more gives.value
  next_value = record {
    some = gives.some;
    next = gives.next;
    of_value = recursion_from_All (λ row. at dim row ≡ gives.value) rows (subst (λ (d : ℕ). All (λ row. at d row ≡ gives.value) rows) ways.0 gives.of_value);
    past = recursion_from_All (λ row. IsAlong is_descending gives.value (at dim row)) gives.more
        (subst (λ (down : Bool). All (λ row. IsAlong down gives.value (at dim row)) gives.more) ways.1
        (subst (λ (d : ℕ). All (λ row. IsAlong new_s.is_descending gives.value (at d row)) gives.more) ways.0 gives.past));
    by_number = gives.by_number;
  }

  has_reached : HasReached is_descending gives.value (fetched ++ gives.read) gives.left
  has_reached = record {
    behind = recursion_from_All (λ event. ¬ (IsAlong is_descending gives.value event.value)) (fetched ++ gives.read)
        (subst (λ (down : Bool). All (λ event. ¬ (IsAlong down gives.value event.value)) (fetched ++ gives.read)) ways.1 gives.reached);
    ahead = all_from_contains (λ event. IsAlong is_descending gives.value event.value) gives.left
        (λ event there. subst (λ (down : Bool). IsAlong down gives.value event.value) ways.1
        (value_along event rows gives.some gives.of_value
        (All-contains (λ event. All (λ row. IsRowAlong new_s.dim new_s.is_descending row event.value) (given ++ rows)) gives.left event gives.sweeping.under_way.given_before there)));
  }
    where
      value_along : (event : Event) (rows : List Row) → rows ≢ [] → All (λ row. at new_s.dim row ≡ gives.value) rows → All (λ row. IsRowAlong new_s.dim new_s.is_descending row event.value) (given ++ rows)
          → IsAlong new_s.is_descending gives.value event.value
      value_along event [] some of_value before = absurd (some refl)
      value_along event (first ∷ rows) some of_value before =
          subst (λ (v : ℕ). IsAlong new_s.is_descending v event.value) (All-contains (λ row. at new_s.dim row ≡ gives.value) (first ∷ rows) first of_value (contains_here first rows))
          (All-contains (λ row. IsRowAlong new_s.dim new_s.is_descending row event.value) (given ++ first ∷ rows) first before (Contains-append_right given (first ∷ rows) first (contains_here first rows)))

-- ---- the groups of the rows of one value

-- what the query means on these rows alone, of which all are selected
value_groups : (schema now : Schema) (q asked : Asked) (rows : List Row) (cells : List (List Cell)) → now ≡ schema → asked ≡ q → q.group ≢ []
    → IsMeaning (record { schema = now; rows = rows }) (record asked { filter = None }) cells
    → (last : List Group) × AreGroupsInOrder schema q rows last × (cells ≡ group_lines schema q (limited q.limit last))
value_groups schema now q asked rows cells same_schema same_query some means =
    by_kind (subst (λ (q : Asked). IsMeaning (record { schema = schema; rows = rows }) (record q { filter = None }) cells) same_query
    (subst (λ (s : Schema). IsMeaning (record { schema = s; rows = rows }) (record asked { filter = None }) cells) same_schema means))
  where
    by_kind : IsMeaning (record { schema = schema; rows = rows }) (record q { filter = None }) cells → (last : List Group) × AreGroupsInOrder schema q rows last × (cells ≡ group_lines schema q (limited q.limit last))
    by_kind (inl (grouped, means)) = (
      means.arranged,
      record {
        groups = means.groups;
        grouped = subst (λ (rs : List Row). AreGroups schema q.group rs means.groups) (all_selected rows) means.grouped;
        ordered = means.ordered;
      },
      means.cells,
    )
    by_kind (inr (plain, means)) = absurd (plain (inl some))

-- ---- the turns of the loop

module _ (plan : PlanView) (start : TreeView) (dim : ℕ) (is_descending : Bool) (sound : IsSound start) (planned : plan ≡ plan_of start.schema plan.asked)
    (kind : plan.kind ≡ Sweep dim is_descending) (led : IsLedBy start.schema plan.asked dim is_descending) (follow : GroupsFollowTheLead)
    (t : TreeView) (s : SweepView) (cells : List (List Cell)) (kept : Keeps start t) (swept : HasSweptGroups plan start t dim is_descending s cells) where
  same : IsPermutation (filter (is_selected start.schema plan.asked.filter) (rows_of (regions start))) (swept.given ++ swept.rest)
  same = selected_at plan start t dim is_descending s swept.given swept.rest swept.fetched swept.unread kept kind swept.sweeping

  events : AreEvents start.schema plan.covering.boxes dim is_descending (regions start) (swept.fetched ++ swept.unread)
  events = events_at plan start t dim is_descending s swept.given swept.rest swept.fetched swept.unread kept kind swept.sweeping

  HasSweptGroups-more : (new : TreeView) (new_s : SweepView) (rows : List Row) → Keeps start new → IfSome plan.asked.limit (λ n. length cells < n)
      → HasGivenValue plan new new_s swept.given swept.rest swept.fetched swept.unread rows → (last : List Group) → AreGroupsInOrder start.schema plan.asked rows last
      → (more all : List (List Cell)) → more ≡ group_lines start.schema plan.asked (limited plan.asked.limit last) → all ≡ limited plan.asked.limit (cells ++ more)
      → HasSweptGroups plan start new dim is_descending new_s all
  HasSweptGroups-more new new_s rows kept_then short gives last last_are more all more_are all_are = record {
    given = swept.given ++ rows;
    rest = gives.more;
    fetched = swept.fetched ++ gives.read;
    unread = gives.left;
    sweeping = gives.sweeping;
    grouped = HasGrouped-more start.schema plan dim is_descending (regions start) swept.given swept.rest swept.fetched swept.unread cells swept.grouped led short rows gives.more gives.value
        (next_value plan start new dim is_descending new_s swept.given swept.rest swept.fetched swept.unread rows kept_then kind gives) (swept.fetched ++ gives.read) gives.left
        (has_reached plan start new dim is_descending new_s swept.given swept.rest swept.fetched swept.unread rows kept_then kind gives) follow same last last_are more all more_are all_are;
  }

  -- the rows have numbers that rows can have
  value_numbers : (new : TreeView) (new_s : SweepView) (rows : List Row) → HasGivenValue plan new new_s swept.given swept.rest swept.fetched swept.unread rows → All (λ row. row.number ≤ 16777215) rows
  value_numbers new new_s rows gives =
      All-from_recursion (λ row. row.number ≤ 16777215) rows
      (all_from_contains (λ row. row.number ≤ 16777215) rows
      (λ row there.
      let here : Contains swept.rest row = subst (λ (rs : List Row). Contains rs row) (sym gives.next) (Contains-append_left rows gives.more row there) in
      let among = Contains-permutation (swept.given ++ swept.rest) (filter (is_selected start.schema plan.asked.filter) (rows_of (regions start))) row
      (IsPermutation-sym (filter (is_selected start.schema plan.asked.filter) (rows_of (regions start))) (swept.given ++ swept.rest) same) (Contains-append_right swept.given swept.rest row here) in
      let from = contains_from_filter (is_selected start.schema plan.asked.filter) (rows_of (regions start)) row among in
      let below : row.number < start.next = all_at (λ r. r.number < start.next) (rows_of (regions start)) row sound.regions_are.numbered from.0 in
      let last = sound.last_next in
      omega (arith, below, last)))

  -- what the query means on these rows alone was put in
  HasSweptGroups-next : (new : TreeView) (new_s : SweepView) (rows : List Row) → Keeps start new → IfSome plan.asked.limit (λ n. length cells < n)
      → HasGivenValue plan new new_s swept.given swept.rest swept.fetched swept.unread rows → (now : Schema) (asked : Asked) (slice : List Row) → now ≡ new.schema → asked ≡ plan.asked → slice ≡ rows → (more all : List (List Cell))
      → (IsInOrder slice → All (λ row. row.number ≤ 16777215) slice → IsMeaning (record { schema = now; rows = slice }) (record asked { filter = None }) more)
      → all ≡ limited asked.limit (cells ++ more) → HasSweptGroups plan start new dim is_descending new_s all
  HasSweptGroups-next new new_s rows kept_then short gives now asked slice same_schema same_query same_rows more all means is =
      let of_rows = subst (λ (rs : List Row). IsInOrder rs → All (λ row. row.number ≤ 16777215) rs → IsMeaning (record { schema = now; rows = rs }) (record asked { filter = None }) more) same_rows means in
      let (last, last_are, more_are) = value_groups start.schema now plan.asked asked rows more (same_schema ∙ kept_then.regions.schema) same_query led.some
      (of_rows gives.by_number (value_numbers new new_s rows gives)) in
      HasSweptGroups-more new new_s rows kept_then short gives last last_are more all more_are (is ∙ ap (λ (q : Asked). limited q.limit (cells ++ more)) same_query)

  -- ---- the limit is filled

  some_asked : (n : ℕ) → plan.asked.limit ≡ Some n → 1 ≤ n
  some_asked zero limit = (no_sweep plan.kind dim is_descending kind (empty_where start.schema plan planned limit))
  some_asked (suc n) limit = omega arith

  groups_filled : IsFilled plan.asked.limit (length cells) → t.trace.fetches ≡ fetches_then start.trace.fetches (length t.trace.pages) → HasFetched plan (begun start) t × IsAnswer start plan.asked cells
  groups_filled full fetches = by_limit plan.asked.limit refl full
    where
      by_limit : (limit : Option ℕ) → plan.asked.limit ≡ limit → IsFilled limit (length cells) → HasFetched plan (begun start) t × IsAnswer start plan.asked cells
      by_limit None is full = absurd full
      by_limit (Some n) is full =
          let many = lines_full start.schema plan.asked swept.grouped.groups cells n swept.grouped.cells_are is full in
          let (table, are) = regions_have_a_table start.schema start.next (regions start) sound.regions_are in (
            visits_fetched plan start t swept.fetched kept swept.sweeping.noted fetches
                (group_visits plan dim is_descending start.schema (regions start) (map (λ event. event.span) swept.fetched) kind led.some
                (filled_visits start.schema plan dim is_descending (regions start) swept.given swept.rest swept.grouped.groups same swept.grouped.so_far follow led table are n is many
                swept.fetched swept.unread events (swept.grouped.stops n is (some_asked n is) many))),
            λ rows of_tree. filled_meant start.schema plan dim is_descending (regions start) swept.given swept.rest swept.grouped.groups same swept.grouped.so_far follow led rows of_tree n is many
                cells swept.grouped.cells_are,
          )

  -- ---- it isn't

  module _ (short : IfSome plan.asked.limit (λ n. length cells < n)) where
    few : IfSome plan.asked.limit (λ n. length swept.grouped.groups < n)
    few = is_short start.schema plan dim is_descending (regions start) swept.given swept.rest swept.fetched swept.unread cells swept.grouped led short

    -- no row is left
    groups_ended : (new : TreeView) (new_s : SweepView) → Keeps start new → new.trace.fetches ≡ fetches_then start.trace.fetches (length new.trace.pages)
        → HasEnded plan new new_s swept.given swept.rest swept.fetched swept.unread → HasFetched plan (begun start) new × IsAnswer start plan.asked cells
    groups_ended new new_s kept_then fetches ends =
        let (table, are) = regions_have_a_table start.schema start.next (regions start) sound.regions_are in
        let all = swept.fetched ++ swept.unread in (
          visits_fetched plan start new all kept_then ends.sweeping.noted fetches
              (group_visits plan dim is_descending start.schema (regions start) (map (λ event. event.span) all) kind led.some
              (ended_visits start.schema plan dim is_descending (regions start) swept.given swept.rest swept.grouped.groups same swept.grouped.so_far follow led table are ends.none all events few)),
          λ rows of_tree. ended_meant start.schema plan dim is_descending (regions start) swept.given swept.rest swept.grouped.groups same swept.grouped.so_far follow led rows of_tree ends.none
              cells swept.grouped.cells_are,
        )

    -- regions none of which is past a row to come are the first of the visits
    first_visits : (front left : List Event) → AreEvents start.schema plan.covering.boxes dim is_descending (regions start) (front ++ left)
        → AllByRecursion (λ row. AreUpTo is_descending front (at dim row)) swept.rest
        → (later : List Event) × AreVisits start.schema plan (regions start) (map (λ event. event.span) (front ++ later))
    first_visits front left events_then past =
        let (table, are) = regions_have_a_table start.schema start.next (regions start) sound.regions_are in
        let (later, visits) = front_visits start.schema plan dim is_descending (regions start) swept.given swept.rest swept.grouped.groups same swept.grouped.so_far follow led table are
        front left events_then few past in
        (later, group_visits plan dim is_descending start.schema (regions start) (map (λ event. event.span) (front ++ later)) kind led.some visits)

    -- it is broken off after the rows of a value were given
    groups_after : (new : TreeView) (new_s : SweepView) (rows : List Row) → Keeps start new → new.trace.fetches ≡ fetches_then start.trace.fetches (length new.trace.pages)
        → HasGivenValue plan new new_s swept.given swept.rest swept.fetched swept.unread rows → (count : ℕ) × HasFetchedFirst plan (begun start) new count
    groups_after new new_s rows kept_then fetches gives =
        let front = swept.fetched ++ gives.read in
        let (later, visits) = first_visits front gives.left
        (events_at plan start new dim is_descending new_s (swept.given ++ rows) gives.more front gives.left kept_then kind gives.sweeping)
        (value_behind start.schema plan dim is_descending (regions start) swept.given swept.rest swept.fetched swept.unread cells swept.grouped led short rows gives.more gives.value
        (next_value plan start new dim is_descending new_s swept.given swept.rest swept.fetched swept.unread rows kept_then kind gives) front gives.left
        (has_reached plan start new dim is_descending new_s swept.given swept.rest swept.fetched swept.unread rows kept_then kind gives)) in
        swept_first plan start new front later kept_then.regions.placed gives.sweeping.noted fetches visits

    -- it is broken off while those of the next value are looked for
    module _ (new : TreeView) (broken : HasBroken new s swept.rest swept.fetched swept.unread) where
      -- a region that was fetched isn't past a row to come
      read_behind : (rest : List Row) → swept.rest ≡ rest → AllByRecursion (λ row. AreUpTo is_descending broken.read (at dim row)) rest
      read_behind [] is = tt
      read_behind (first ∷ more) is =
          let ways = way plan start t dim is_descending s swept.given swept.rest swept.fetched swept.unread kept kind swept.sweeping in
          let front : AreUpTo is_descending broken.read (at dim first) = recursion_from_All (λ event. ¬ (IsAlong is_descending (at dim first) event.value)) broken.read
          (subst (λ (down : Bool). All (λ event. ¬ (IsAlong down (at dim first) event.value)) broken.read) ways.1
          (subst (λ (d : ℕ). All (λ event. ¬ (IsAlong s.is_descending (at d first) event.value)) broken.read) ways.0 (broken.reached first more is))) in
          let late = none_before_first start.schema plan dim is_descending (selected_rows t.schema plan (regions t)) swept.given more first led
          (subst (λ (rows : List Row). AreArranged start.schema plan (selected_rows t.schema plan (regions t)) (swept.given ++ rows)) is
          (arranged_at plan start t dim is_descending s swept.given swept.rest swept.fetched swept.unread kept kind swept.sweeping)) in (
            front,
            all_weaker (λ row. ¬ (IsAlong is_descending (at dim row) (at dim first))) (λ row. AreUpTo is_descending broken.read (at dim row))
                (λ row not. all_weaker (λ event. ¬ (IsAlong is_descending (at dim first) event.value)) (λ event. ¬ (IsAlong is_descending (at dim row) event.value))
                (λ event past. up_to_chain is_descending event.value (at dim first) (at dim row) past not) broken.read front) more late,
          )

      all_behind : AllByRecursion (λ row. AreUpTo is_descending (swept.fetched ++ broken.read) (at dim row)) swept.rest
      all_behind = all_from_contains (λ row. AreUpTo is_descending (swept.fetched ++ broken.read) (at dim row)) swept.rest
          (λ row there. all_joined (λ event. ¬ (IsAlong is_descending (at dim row) event.value)) swept.fetched broken.read
          (all_at (λ row. AreUpTo is_descending swept.fetched (at dim row)) swept.rest row swept.grouped.behind there)
          (all_at (λ row. AreUpTo is_descending broken.read (at dim row)) swept.rest row (read_behind swept.rest refl) there))

      groups_before : new.placed ≡ t.placed → new.trace.fetches ≡ fetches_then start.trace.fetches (length new.trace.pages) → (count : ℕ) × HasFetchedFirst plan (begun start) new count
      groups_before placed fetches =
          let front = swept.fetched ++ broken.read in
          let whole : swept.fetched ++ swept.unread ≡ front ++ broken.left =
          ap (λ (those : List Event). swept.fetched ++ those) broken.parts ∙ sym (append_assoc swept.fetched broken.read broken.left) in
          let (later, visits) = first_visits front broken.left
          (subst (λ (those : List Event). AreEvents start.schema plan.covering.boxes dim is_descending (regions start) those) whole events) all_behind in
          swept_first plan start new front later (placed ∙ kept.regions.placed) broken.noted fetches visits

-- ---- the loop

-- over a sound tree it has swept so many groups
abbrev pub HaveSwept : PlanView → TreeView → TreeView → SweepView → List (List Cell) → Type 0
HaveSwept plan start t s cells =
    IsReady start plan → (dim : ℕ) (is_descending : Bool) → plan.kind ≡ Sweep dim is_descending → plan.asked.group ≢ [] → HasSweptGroups plan start t dim is_descending s cells

-- what asking for the next value says of such a tree
abbrev pub Steps : PlanView → TreeView → SweepView → TreeView → SweepView → Option (List Row) → Type 0
Steps plan t s new new_s found =
    (given rest : List Row) (fetched unread : List Event) → IsSweeping plan t s given rest fetched unread → plan.asked.group ≢ [] → HasSteppedValue plan new new_s given rest fetched unread found

pub value_steps : {A : Type 0} (rows : A → List Row) (plan : PlanView) (s new_s : SweepView) (t new : TreeView) (found value : Option A) → found ≡ value → GivesValue plan s new_s t new (Ok found) rows
    → Steps plan t s new new_s (option_map rows value)
value_steps {A = A} rows plan s new_s t new found value is gives =
    let given : GivesValue plan s new_s t new (Ok value) rows = subst (λ (o : Option A). GivesValue plan s new_s t new (Ok o) rows) is gives in
    given.next

module _ (plan : PlanView) (start t : TreeView) (columns : ℕ) (posed : IsPosed columns plan.asked) (s : SweepView) (cells : List (List Cell)) (kept : Keeps start t) (come : HaveSwept plan start t s cells) where
  -- the rows of one more value were given, and their groups put in
  pub HaveSwept-more : (new : TreeView) (new_s : SweepView) (rows : List Row) → Keeps start new → IfSome plan.asked.limit (λ n. length cells < n) → Steps plan t s new new_s (Some rows)
      → (now : Schema) (asked : Asked) (slice : List Row) → now ≡ new.schema → asked ≡ plan.asked → slice ≡ rows → (more all : List (List Cell))
      → (IsInOrder slice → All (λ row. row.number ≤ 16777215) slice → IsMeaning (record { schema = now; rows = slice }) (record asked { filter = None }) more)
      → all ≡ limited asked.limit (cells ++ more) → HaveSwept plan start new new_s all
  HaveSwept-more new new_s rows kept_then short steps now asked slice same_schema same_query same_rows more all means is ready dim is_descending way some =
      let swept = come ready dim is_descending way some in
      HasSweptGroups-next plan start dim is_descending ready.sound ready.planned way (led_by start.schema plan columns dim is_descending posed ready.planned way some) groups_follow_the_lead
      t s cells kept swept new new_s rows kept_then short (steps swept.given swept.rest swept.fetched swept.unread swept.sweeping some) now asked slice same_schema same_query same_rows more all means is

  module _ (ready : IsReady start plan) (kind : IsSwept plan.kind) (some : plan.asked.group ≢ []) where
    -- the limit is filled
    pub filled_groups : IsFilled plan.asked.limit (length cells) → t.trace.fetches ≡ fetches_then start.trace.fetches (length t.trace.pages)
        → HasFetched plan (begun start) t × IsAnswer start plan.asked cells
    filled_groups full fetches =
        let (dim, is_descending, way) = swept_kind plan.kind kind in
        groups_filled plan start dim is_descending ready.sound ready.planned way (led_by start.schema plan columns dim is_descending posed ready.planned way some) groups_follow_the_lead
        t s cells kept (come ready dim is_descending way some) full fetches

    module _ (short : IfSome plan.asked.limit (λ n. length cells < n)) (new : TreeView) (new_s : SweepView) (fetches : new.trace.fetches ≡ fetches_then start.trace.fetches (length new.trace.pages)) where
      -- no row is left
      pub ended_groups : Keeps start new → Steps plan t s new new_s None → HasFetched plan (begun start) new × IsAnswer start plan.asked cells
      ended_groups kept_then steps =
          let (dim, is_descending, way) = swept_kind plan.kind kind in
          let swept = come ready dim is_descending way some in
          groups_ended plan start dim is_descending ready.sound ready.planned way (led_by start.schema plan columns dim is_descending posed ready.planned way some) groups_follow_the_lead
          t s cells kept swept short new new_s kept_then fetches (steps swept.given swept.rest swept.fetched swept.unread swept.sweeping some)

      -- it is broken off after the rows of a value were given
      pub broken_after_rows : (rows : List Row) → Keeps start new → Steps plan t s new new_s (Some rows) → (count : ℕ) × HasFetchedFirst plan (begun start) new count
      broken_after_rows rows kept_then steps =
          let (dim, is_descending, way) = swept_kind plan.kind kind in
          let swept = come ready dim is_descending way some in
          groups_after plan start dim is_descending ready.sound ready.planned way (led_by start.schema plan columns dim is_descending posed ready.planned way some) groups_follow_the_lead
          t s cells kept swept short new new_s rows kept_then fetches (steps swept.given swept.rest swept.fetched swept.unread swept.sweeping some)

      -- or before
      pub broken_before_rows : new.placed ≡ t.placed → ((given rest : List Row) (fetched unread : List Event) → IsSweeping plan t s given rest fetched unread → HasBroken new s rest fetched unread)
          → (count : ℕ) × HasFetchedFirst plan (begun start) new count
      broken_before_rows placed breaks =
          let (dim, is_descending, way) = swept_kind plan.kind kind in
          let swept = come ready dim is_descending way some in
          groups_before plan start dim is_descending ready.sound ready.planned way (led_by start.schema plan columns dim is_descending posed ready.planned way some) groups_follow_the_lead
          t s cells kept swept short new (breaks swept.given swept.rest swept.fetched swept.unread swept.sweeping) placed fetches

-- ---- the shape of what stands in the answer

all_limited : {X : Type 0} (P : X → Type 0) (limit : Option ℕ) (xs : List X) → AllByRecursion P xs → AllByRecursion P (limited limit xs)
all_limited P None xs all = all
all_limited {X = X} P (Some n) xs all = first n xs all
  where
    first : (n : ℕ) (xs : List X) → AllByRecursion P xs → AllByRecursion P (take n xs)
    first zero [] all = tt
    first zero (x ∷ xs) all = tt
    first (suc n) [] all = tt
    first (suc n) (x ∷ xs) all = (all.0, first n xs all.1)

few_limited : {X : Type 0} (limit : Option ℕ) (xs : List X) → IfSome limit (λ most. length (limited limit xs) ≤ most)
few_limited None xs = tt
few_limited (Some n) xs = first n xs
  where
    first : {X : Type 0} (n : ℕ) (xs : List X) → length (take n xs) ≤ n
    first zero [] = omega arith
    first zero (x ∷ xs) = omega arith
    first (suc n) [] = omega arith
    first (suc n) (x ∷ xs) = let few = first n xs in omega arith

pub shaped_joined : (q asked : Asked) (some more all : List (List Cell)) → asked ≡ q → IsShaped q some → IsShaped asked more → all ≡ limited asked.limit (some ++ more) → IsShaped q all
shaped_joined q asked some more all same first second is =
    let rest : IsShaped q more = subst (λ (q : Asked). IsShaped q more) same second in
    subst (λ (rows : List (List Cell)). IsShaped q rows) (sym (is ∙ ap (λ (q : Asked). limited q.limit (some ++ more)) same)) (record {
      wide = all_limited (λ cells. length cells ≡ length q.items) q.limit (some ++ more) (all_joined (λ cells. length cells ≡ length q.items) some more first.wide rest.wide);
      few = few_limited q.limit (some ++ more);
    })

pub one_width : (columns : ℕ) (q asked : Asked) (some more : List (List Cell)) → IsPosed columns q → asked ≡ q → IsShaped q some → IsShaped asked more → HaveOneWidth some more
one_width columns q asked some more posed same first second =
    let rest : IsShaped q more = subst (λ (q : Asked). IsShaped q more) same second in
    record { width = length q.items; some = posed.some_items; first_wide = first.wide; second_wide = rest.wide }
