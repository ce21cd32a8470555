-- A sweep of groups with no limit: all regions are visited, and the rows that it hands over are all selected ones.
use Rattle.std.proofs.Common.{◌≡◌, ◌≢◌, ◌≤◌, ◌∙◌, ℕ, Bool, List, [], ◌∷◌, ◌++◌, Option, Some, None, IsPermutation, filter, length, map, refl, sym, ap, subst}
use Rattle.std.proofs.lemmas.List.Sorted.{IsPermutation-sym, IsPermutation-trans}
use Rattle.std.specs.List.{All}
use Rattle.ub_exec.proofs.FirstFacts.{swept_first}
use Rattle.ub_exec.proofs.GroupTurnFacts.{events_at, group_visits}
use Rattle.ub_exec.proofs.MeantFacts.{numbers_are}
use Rattle.ub_exec.proofs.PermutedFacts.{filtered_permuted}
use Rattle.ub_exec.proofs.SweptFacts.{visits_fetched}
use Rattle.ub_exec.specs.Answers.{IsAnswer, IsReady, begun}
use Rattle.ub_exec.specs.Visits.{HasFetched, HasFetchedFirst, fetches_then}
use Rattle.ub_planning.proofs.Laws.{meeting_hold_the_tables, regions_have_a_table}
use Rattle.ub_planning.specs.Plan.{PlanView, plan_of}
use Rattle.ub_planning.specs.Visits.{AreEvents, AreMeeting, AreVisits, Event, Span, fetched_rows, reached, selected_rows}
use Rattle.ub_planning.specs.declared.planned.Kind.TheVariants.{Sweep}
use Rattle.ub_query.proofs.Laws.{groups_have_an_arrangement, rows_fall_into_groups}
use Rattle.ub_query.specs.Groups.{is_selected, selected}
use Rattle.ub_query.specs.Meaning.{IsMeaning}
use Rattle.ub_query.specs.Shape.{Asked, Shape}
use Rattle.ub_query.specs.declared.cell.Cell.{Cell}
use Rattle.ub_region.specs.Regions.{AreRegions, AreTableRows, rows_of}
use Rattle.ub_table.specs.Region.{RegionRows}
use Rattle.ub_table.specs.Table.{Table, IsInOrder}
use Rattle.ub_table.specs.declared.row.Row.{Row}
use Rattle.ub_table.specs.declared.schema.Schema.{Schema}
use Rattle.ub_tetris.specs.Machine.{regions_at}
use Rattle.ub_tetris.specs.Sweep.{HasBegun, HasBrokenOff, HasHandedOver, SweepView}
use Rattle.ub_tree.proofs.Laws.{Keeps}
use Rattle.ub_tree.specs.View.{TreeView, regions}

-- it goes to the end
all_reached : (is_descending : Bool) (limit : Option ℕ) (given : List ℕ) (events : List Event) → limit ≡ None → reached is_descending limit given events ≡ events
all_reached is_descending None given events none = refl
all_reached is_descending (Some n) given events none = cc

some_asked : (limit : Option ℕ) → limit ≡ None → limit ≢ Some 0
some_asked None none zero = cc
some_asked (Some n) none zero = cc

rows_at : (events : List Event) → rows_of (regions_at events) ≡ fetched_rows (map (λ event. event.span) events)
rows_at [] = refl
rows_at (event ∷ events) = ap (λ (rows : List Row). event.span.region.rows ++ rows) (rows_at events)

-- the selected rows of the regions that it comes to are those of the table
events_hold : (schema : Schema) (plan : PlanView) (dim : ℕ) (is_descending : Bool) (next : ℕ) (regions : List RegionRows) (rows : List Row) (events : List Event) → plan ≡ plan_of schema plan.asked
    → plan.asked.limit ≢ Some 0 → AreRegions schema next regions → AreTableRows regions rows → AreEvents schema plan.covering.boxes dim is_descending regions events
    → IsPermutation (selected (record { schema = schema; rows = rows }) plan.asked.filter) (selected_rows schema plan (regions_at events))
events_hold schema plan dim is_descending next regions rows events planned limit are table those =
    let chosen = is_selected schema plan.asked.filter in
    let meeting : AreMeeting schema (plan_of schema plan.asked).covering.boxes regions those.meeting =
    subst (λ (x : PlanView). AreMeeting schema x.covering.boxes regions those.meeting) planned those.meeting_are in
    let held = meeting_hold_the_tables schema plan.asked next regions rows those.meeting limit are table meeting in
    let spans : List Span = map (λ (event : Event). event.span) events in
    let other : IsPermutation (filter chosen (fetched_rows those.meeting)) (filter chosen (fetched_rows spans)) =
    filtered_permuted (λ (span : Span). span.region.rows) chosen those.meeting spans those.same in
    subst (λ (rs : List Row). IsPermutation (selected (record { schema = schema; rows = rows }) plan.asked.filter) (filter chosen rs)) (sym (rows_at events))
    (IsPermutation-trans (selected (record { schema = schema; rows = rows }) plan.asked.filter) (filter chosen (fetched_rows those.meeting)) (filter chosen (fetched_rows spans))
    (IsPermutation-sym (filter chosen (fetched_rows those.meeting)) (selected (record { schema = schema; rows = rows }) plan.asked.filter) held) other)

module _ (plan : PlanView) (start mid : TreeView) (dim : ℕ) (is_descending : Bool) (s : SweepView) (ready : IsReady start plan) (way : plan.kind ≡ Sweep dim is_descending)
    (none : plan.asked.limit ≡ None) (begins : HasBegun plan mid s) (kept : Keeps start mid) where
  events : AreEvents start.schema plan.covering.boxes dim is_descending (regions start) begins.unread
  events = events_at plan start mid dim is_descending s [] begins.rest [] begins.unread kept way begins.sweeping

  visits : plan.asked.group ≢ [] → AreVisits start.schema plan (regions start) (map (λ event. event.span) begins.unread)
  visits some =
      let (table, are) = regions_have_a_table start.schema start.next (regions start) ready.sound.regions_are in
      let chosen = selected (record { schema = start.schema; rows = table }) plan.asked.filter in
      let (found, grouped) = rows_fall_into_groups start.schema plan.asked.group chosen in
      let (arranged, ordered) = groups_have_an_arrangement start.schema plan.asked.group plan.asked.order chosen found grouped in
      group_visits plan dim is_descending start.schema (regions start) (map (λ event. event.span) begins.unread) way some (record {
        events = begins.unread;
        events_are = events;
        rows = table;
        rows_are = are;
        arranged = arranged;
        arranged_are = record { groups = found; grouped = grouped; ordered = ordered };
        visits_are = ap (λ (those : List Event). map (λ (event : Event). event.span) those) (sym (all_reached is_descending plan.asked.limit _ begins.unread none));
      })

  -- it is broken off
  pub whole_first : (new : TreeView) → new.placed ≡ start.placed → new.trace.fetches ≡ fetches_then start.trace.fetches (length new.trace.pages) → plan.asked.group ≢ []
      → HasBrokenOff new [] begins.unread → (count : ℕ) × HasFetchedFirst plan (begun start) new count
  whole_first new placed fetches some broken =
      swept_first plan start new broken.read broken.left placed broken.noted fetches
      (subst (λ (those : List Event). AreVisits start.schema plan (regions start) (map (λ event. event.span) those)) broken.parts (visits some))

  -- or it isn't
  module _ (new : TreeView) (kept_then : Keeps start new) (handed : List Row) (over : HasHandedOver plan new [] begins.unread handed) where
    pub whole_fetched : new.trace.fetches ≡ fetches_then start.trace.fetches (length new.trace.pages) → plan.asked.group ≢ [] → HasFetched plan (begun start) new
    whole_fetched fetches some = visits_fetched plan start new begins.unread kept_then over.noted fetches (visits some)

    -- what is made of the rows is what the query means
    pub whole_meant : (q : Asked) → q ≡ plan.asked → (cells : List (List Cell))
        → ((table : Table) (condition : Option Shape) → table.schema ≡ start.schema → IsInOrder table.rows → All (λ row. row.number ≤ 16777215) table.rows
        → IsPermutation (selected table condition) handed → IsMeaning table (record q { filter = condition }) cells) → IsAnswer start plan.asked cells
    whole_meant q same cells finish rows are =
        let table : Table = record { schema = start.schema; rows = rows } in
        let held : IsPermutation (selected table plan.asked.filter) (selected_rows start.schema plan (regions_at begins.unread)) =
        events_hold start.schema plan dim is_descending start.next (regions start) rows begins.unread ready.planned (some_asked plan.asked.limit none) ready.sound.regions_are are events in
        let handed_are : selected_rows start.schema plan (regions_at begins.unread) ≡ handed =
        ap (λ (schema : Schema). selected_rows schema plan (regions_at begins.unread)) (sym kept_then.regions.schema) ∙ sym over.rows_are in
        let at_q : IsMeaning table (record q { filter = plan.asked.filter }) cells = finish table plan.asked.filter refl are.ascending (numbers_are start ready.sound rows are)
        (subst (λ (rs : List Row). IsPermutation (selected table plan.asked.filter) rs) handed_are held) in
        subst (λ (x : Asked). IsMeaning table (record x { filter = plan.asked.filter }) cells) same at_q
