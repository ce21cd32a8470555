-- The regions that a sweep of groups has fetched are its visits, or the first of them, and its groups are the answer.
use Rattle.std.proofs.Common.{◌≡◌, ◌≢◌, ◌<◌, ◌≤◌, ◌∙◌, ℕ, Bool, List, [], ◌∷◌, ◌++◌, Option, Some, IfSome, IsPermutation, filter, length, map, take, inl, sym, ap, subst}
use Rattle.std.proofs.lemmas.List.{append-nil, take-append-le}
use Rattle.std.specs.List.{AllByRecursion}
use Rattle.ub_exec.proofs.GivenFacts.{AreGivenGroups, at, back_led, chosen, whole}
use Rattle.ub_exec.proofs.LedFacts.{IsLedBy}
use Rattle.ub_planning.proofs.Laws.{AreUpTo, StopsAt, reached_filled, reached_front, reached_short}
use Rattle.ub_planning.specs.Plan.{PlanView}
use Rattle.ub_planning.specs.Visits.{AreEvents, AreGroupVisits, Event, lead_coordinate, reached}
use Rattle.ub_query.specs.Cells.{Group, group_cell}
use Rattle.ub_query.specs.Groups.{is_selected}
use Rattle.ub_query.specs.Laws.{GroupsFollowTheLead}
use Rattle.ub_query.specs.Lead.{AreGroupsInOrder}
use Rattle.ub_query.specs.Meaning.{IsMeaning, limited}
use Rattle.ub_query.specs.Shape.{Asked}
use Rattle.ub_query.specs.declared.cell.Cell.{Cell}
use Rattle.ub_region.specs.Regions.{AreTableRows, rows_of}
use Rattle.ub_table.specs.Region.{RegionRows}
use Rattle.ub_table.specs.declared.row.Row.{Row}
use Rattle.ub_table.specs.declared.schema.Schema.{Schema}

-- the cells of some groups
abbrev pub group_lines : Schema → Asked → List Group → List (List Cell)
group_lines schema q groups = map (λ group. map (group_cell schema q.group group) q.items) groups

-- the groups in order of all selected rows are what the query means
meant : (schema : Schema) (q : Asked) (table : List Row) (arranged : List Group) (cells : List (List Cell)) → q.group ≢ [] → AreGroupsInOrder schema q (chosen schema q table) arranged
    → cells ≡ group_lines schema q (limited q.limit arranged) → IsMeaning (record { schema = schema; rows = table }) q cells
meant schema q table arranged cells some are is = inl (inl some, record { groups = are.groups; arranged = arranged; grouped = are.grouped; ordered = are.ordered; cells = is })

module _ (schema : Schema) (plan : PlanView) (dim : ℕ) (is_descending : Bool) (regions : List RegionRows) (given rest : List Row) (groups : List Group)
    (same : IsPermutation (filter (is_selected schema plan.asked.filter) (rows_of regions)) (given ++ rest))
    (so_far : AreGivenGroups schema plan.asked dim is_descending regions given rest groups)
    (follow : GroupsFollowTheLead) (led : IsLedBy schema plan.asked dim is_descending) (table : List Row) (are : AreTableRows regions table) where
  -- the visits, by the events and the groups to come
  visits_by : (events : List Event) (visited : List Event) (back : List Group) → AreEvents schema plan.covering.boxes dim is_descending regions events
      → AreGroupsInOrder schema plan.asked (chosen schema plan.asked table) (groups ++ back)
      → reached is_descending plan.asked.limit (map (lead_coordinate dim) (limited plan.asked.limit (groups ++ back))) events ≡ visited
      → AreGroupVisits schema plan dim is_descending regions (map (λ event. event.span) visited)
  visits_by events visited back events_are arranged_are is = record {
    events = events;
    events_are = events_are;
    rows = table;
    rows_are = are;
    arranged = groups ++ back;
    arranged_are = arranged_are;
    visits_are = ap (λ (events : List Event). map (λ (event : Event). event.span) events) (sym is);
  }

  -- ---- the limit is filled

  module _ (n : ℕ) (limit : plan.asked.limit ≡ Some n) (many : n ≤ length groups) where
    first_are : (back : List Group) → limited plan.asked.limit (groups ++ back) ≡ limited plan.asked.limit groups
    first_are back =
        ap (λ (o : Option ℕ). limited o (groups ++ back)) limit ∙ take-append-le n groups back many ∙ ap (λ (o : Option ℕ). limited o groups) (sym limit)

    pub filled_visits : (fetched unread : List Event) → AreEvents schema plan.covering.boxes dim is_descending regions (fetched ++ unread)
        → StopsAt is_descending (map (lead_coordinate dim) (take n groups)) fetched unread → AreGroupVisits schema plan dim is_descending regions (map (λ event. event.span) fetched)
    filled_visits fetched unread events stops =
        let (back, all_are, back_are) = whole schema plan.asked dim is_descending regions given rest groups same so_far follow led table are in
        visits_by (fetched ++ unread) fetched back events all_are (reached_filled (lead_coordinate dim) is_descending plan.asked.limit n groups back fetched unread limit many stops)

    pub filled_meant : (cells : List (List Cell)) → cells ≡ group_lines schema plan.asked (limited plan.asked.limit groups) → IsMeaning (record { schema = schema; rows = table }) plan.asked cells
    filled_meant cells is =
        let (back, all_are, back_are) = whole schema plan.asked dim is_descending regions given rest groups same so_far follow led table are in
        meant schema plan.asked table (groups ++ back) cells led.some all_are (is ∙ ap (group_lines schema plan.asked) (sym (first_are back)))

  -- ---- no row is left

  module _ (none : rest ≡ []) where
    no_more : (back : List Group) → AllByRecursion (λ g. ⊥) back → groups ++ back ≡ groups
    no_more [] all = append-nil groups
    no_more (g ∷ back) all = absurd all.0

    all_groups : AreGroupsInOrder schema plan.asked (chosen schema plan.asked table) groups
    all_groups =
        let (back, all_are, back_are) = whole schema plan.asked dim is_descending regions given rest groups same so_far follow led table are in
        let gone = back_led schema plan.asked dim is_descending regions given rest groups same so_far (λ n. ⊥) led.some table are back back_are
        (subst (λ (rows : List Row). AllByRecursion (λ row. ⊥) rows) (sym none) tt) in
        subst (λ (gs : List Group). AreGroupsInOrder schema plan.asked (chosen schema plan.asked table) gs) (no_more back gone) all_are

    pub ended_visits : (fetched : List Event) → AreEvents schema plan.covering.boxes dim is_descending regions fetched → IfSome plan.asked.limit (λ n. length groups < n)
        → AreGroupVisits schema plan dim is_descending regions (map (λ event. event.span) fetched)
    ended_visits fetched events short = record {
      events = fetched;
      events_are = events;
      rows = table;
      rows_are = are;
      arranged = groups;
      arranged_are = all_groups;
      visits_are = ap (λ (events : List Event). map (λ (event : Event). event.span) events)
          (sym (reached_short (lead_coordinate dim) is_descending plan.asked.limit groups fetched short));
    }

    pub ended_meant : (cells : List (List Cell)) → cells ≡ group_lines schema plan.asked (limited plan.asked.limit groups) → IsMeaning (record { schema = schema; rows = table }) plan.asked cells
    ended_meant cells is = meant schema plan.asked table groups cells led.some all_groups is

  -- ---- it is broken off

  -- regions none of which is past a row to come are the first of the visits
  pub front_visits : (front left : List Event) → AreEvents schema plan.covering.boxes dim is_descending regions (front ++ left) → IfSome plan.asked.limit (λ n. length groups < n)
      → AllByRecursion (λ row. AreUpTo is_descending front (at dim row)) rest
      → (later : List Event) × AreGroupVisits schema plan dim is_descending regions (map (λ event. event.span) (front ++ later))
  front_visits front left events short past =
      let (back, all_are, back_are) = whole schema plan.asked dim is_descending regions given rest groups same so_far follow led table are in
      let (later, is) = reached_front (lead_coordinate dim) is_descending plan.asked.limit groups back front left short
      (back_led schema plan.asked dim is_descending regions given rest groups same so_far (AreUpTo is_descending front) led.some table are back back_are past) in
      (later, visits_by (front ++ left) (front ++ later) back events all_are is)
