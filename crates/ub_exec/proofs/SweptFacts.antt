-- What a sweep has given and fetched, turn by turn, and when it stops.
use Rattle.std.proofs.Common.{◌≡◌, ◌≢◌, ◌<◌, ◌≤◌, ◌∙◌, ℕ, zero, suc, Bool, List, [], ◌∷◌, ◌++◌, Option, Some, None, Result, IfSome, Contains, length, map, refl, sym, ap, subst, arith}
use Rattle.std.proofs.lemmas.List.{length-append, length-map, map-append}
use Rattle.std.specs.List.{All, AllByRecursion}
use Rattle.ub_answer.specs.Held.{lines}
use Rattle.ub_answer.specs.Shaped.{IsShaped}
use Rattle.ub_tree.proofs.Laws.{Keeps}
use Rattle.ub_exec.proofs.MeantFacts.{empty_where}
use Rattle.ub_exec.specs.Answers.{IsAnswer, IsSwept, begun}
use Rattle.ub_exec.proofs.NotedFacts.{noted_sum}
use Rattle.ub_exec.specs.Reading.{NotesPages}
use Rattle.ub_exec.specs.Reading.{IsFilled}
use Rattle.ub_exec.specs.Visits.{HasFetched, fetches_then}
use Rattle.ub_planning.specs.Plan.{PlanView}
use Rattle.ub_planning.specs.Visits.{Event, AreSweepVisits, AreSweptVisits, AreVisits, AreVisitsBy}
use Rattle.ub_planning.specs.Visits as spec
use Rattle.ub_planning.specs.declared.planned.Kind.{Kind}
use Rattle.ub_planning.specs.declared.planned.Kind.TheVariants.{Empty, Scan, Sweep}
use Rattle.ub_query.specs.Cells.{row_cell}
use Rattle.ub_query.specs.Meaning.{IsMeaning}
use Rattle.ub_query.specs.Shape.{Asked}
use Rattle.ub_query.specs.declared.cell.Cell.{Cell}
use Rattle.ub_region.specs.Regions.{AreTableRows}
use Rattle.ub_table.specs.Region.{RegionRows}
use Rattle.ub_table.specs.declared.row.Row.{Row}
use Rattle.ub_table.specs.declared.schema.Schema.{Schema}
use Rattle.ub_tetris.proofs.Laws.{IsSweepOver, stops, runs_out, stops_with_the_meaning, runs_out_with_the_meaning}
use Rattle.ub_tetris.specs.Held.{rows_held}
use Rattle.ub_tetris.specs.Machine.{IsUnderWay, IsRowAlong, regions_at}
use Rattle.ub_tetris.specs.Sweep.{SweepView, AreNoted, IsSweeping, HasBegun, HasGiven, HasEnded}
use Rattle.ub_tree.specs.Placed.{Placed, regions_in}
use Rattle.ub_tree.specs.View.{TreeView, regions}
use Rattle.ub_tree.specs.declared.read_fault.ReadFault.{ReadFault}

-- ---- a kind that is a sweep

pub swept_kind : (kind : Kind) → IsSwept kind → (dim : ℕ) × (is_descending : Bool) × (kind ≡ Sweep dim is_descending)
swept_kind Empty h = absurd h
swept_kind Scan h = absurd h
swept_kind (Sweep dim is_descending) h = (dim, is_descending, refl)

not_empty : (kind : Kind) → IsSwept kind → kind ≢ Empty
not_empty Empty h = absurd h
not_empty Scan h = absurd h
not_empty (Sweep dim is_descending) h = λ e. cc

-- ---- the last of some rows

last_or : Row → List Row → Row
last_or row [] = row
last_or row (other ∷ rows) = last_or other rows

last-push : (d : Row) (rows : List Row) (row : Row) → last_or d (rows ++ row ∷ []) ≡ row
unfolding last_or
last-push d [] row = refl
last-push d (other ∷ rows) row = last-push other rows row

same_last : (front other : List Row) (row last : Row) → front ++ row ∷ [] ≡ other ++ last ∷ [] → row ≡ last
same_last front other row last e = sym (last-push row front row) ∙ ap (last_or row) e ∙ last-push row other last

no_last : (front : List Row) (row : Row) → ¬ ([] ≡ front ++ row ∷ [])
no_last front row e = let long = ap length e in let more = length-append front (row ∷ []) in absurd (omega arith)

some_last : (rows : List Row) → 1 ≤ length rows → (front : List Row) × (row : Row) × (rows ≡ front ++ row ∷ [])
some_last [] some = absurd (omega arith)
some_last (row ∷ []) some = ([], row, refl)
some_last (row ∷ other ∷ rows) some = let (front, last, is) = some_last (other ∷ rows) (omega arith) in (row ∷ front, last, ap (λ (rs : List Row). row ∷ rs) is)

-- ---- turn by turn

-- so many rows were given, and stand in the answer; no region was fetched whose event value is past the last of them
pub record HasSwept (plan : PlanView) (t : TreeView) (s : SweepView) (rows : List (List Cell)) : Type 0 where
  pub given : List Row
  pub rest : List Row
  pub fetched : List Event
  pub unread : List Event
  pub sweeping : IsSweeping plan t s given rest fetched unread
  pub cells : rows ≡ lines t.schema plan.asked.items given
  pub reached : (front : List Row) (row : Row) → given ≡ front ++ row ∷ [] → All (λ event. ¬ IsRowAlong s.dim s.is_descending row event.value) fetched

-- as many stand in the answer
pub given_long : (plan : PlanView) (t : TreeView) (s : SweepView) (rows : List (List Cell)) (swept : HasSwept plan t s rows) → length rows ≡ length swept.given
given_long plan t s rows swept = ap length swept.cells ∙ length-map swept.given (λ (row : Row). map (row_cell t.schema row) plan.asked.items)

pub HasSwept-none : (plan : PlanView) (t : TreeView) (s : SweepView) → HasBegun plan t s → HasSwept plan t s []
HasSwept-none plan t s begins = record {
  given = [];
  rest = begins.rest;
  fetched = [];
  unread = begins.unread;
  sweeping = begins.sweeping;
  cells = refl;
  reached = λ front row e. absurd (no_last front row e);
}

pub HasSwept-more : (plan : PlanView) (t new : TreeView) (s new_s : SweepView) (rows more : List (List Cell)) (row : Row) (swept : HasSwept plan t s rows)
    → HasGiven plan new new_s swept.given swept.rest swept.fetched swept.unread row → new.schema ≡ t.schema
    → more ≡ rows ++ map (row_cell new.schema row) plan.asked.items ∷ [] → HasSwept plan new new_s more
HasSwept-more plan t new s new_s rows more row swept gives same is =
    record {
      given = swept.given ++ row ∷ [];
      rest = gives.more;
      fetched = swept.fetched ++ gives.read;
      unread = gives.left;
      sweeping = gives.sweeping;
      cells = is ∙ ap (λ (cells : List (List Cell)). cells ++ map (row_cell new.schema row) plan.asked.items ∷ []) (swept.cells ∙ ap (λ (schema : Schema). lines schema plan.asked.items swept.given) (sym same))
          ∙ sym (map-append (λ (r : Row). map (row_cell new.schema r) plan.asked.items) swept.given (row ∷ []));
      reached = λ front last e. subst (λ (r : Row). All (λ event. ¬ IsRowAlong new_s.dim new_s.is_descending r event.value) (swept.fetched ++ gives.read)) (same_last swept.given front row last e) gives.reached;
    }

-- ---- when it stops

-- the visits of a sweep of rows are the plan's
pub row_visits : (plan : PlanView) (dim : ℕ) (is_descending : Bool) (schema : Schema) (regions : List RegionRows) (visits : List spec.Span) → plan.kind ≡ Sweep dim is_descending → plan.asked.group ≡ []
    → AreSweepVisits schema plan dim is_descending regions visits → AreVisits schema plan regions visits
row_visits plan dim is_descending schema regions visits kind plain are =
    subst (λ (kind : Kind). AreVisitsBy kind schema plan regions visits) (sym kind)
    (subst (λ (group : List ℕ). AreSweptVisits group schema plan dim is_descending regions visits) (sym plain) are)

-- visits on the tree as it was at the start
pub visits_at : (plan : PlanView) (start t : TreeView) (events : List Event) → Keeps start t → AreVisits t.schema plan (regions t) (map (λ event. event.span) events)
    → AreVisits start.schema plan (regions start) (map (λ event. event.span) events)
visits_at plan start t events kept visits =
    subst (λ (placed : List Placed). AreVisits start.schema plan (regions_in placed) (map (λ event. event.span) events)) kept.regions.placed
    (subst (λ (schema : Schema). AreVisits schema plan (regions t) (map (λ event. event.span) events)) kept.regions.schema visits)

-- the pages that were fetched are those of the visits
pub visits_fetched : (plan : PlanView) (start t : TreeView) (fetched : List Event) → Keeps start t → AreNoted t fetched
    → t.trace.fetches ≡ fetches_then start.trace.fetches (length t.trace.pages) → AreVisits start.schema plan (regions start) (map (λ event. event.span) fetched) → HasFetched plan (begun start) t
visits_fetched plan start t fetched kept noted fetches visits =
    record {
      visits = map (λ event. event.span) fetched;
      visits_are = visits;
      visited = noted.placed;
      there = subst (λ (placed : List Placed). AllByRecursion (Contains placed) noted.placed) kept.regions.placed noted.there;
      regions_are = noted.regions_are ∙ spans_at fetched;
      trace_is = noted.trace_is;
      fetches_are = fetches ∙ ap (fetches_then start.trace.fetches) (ap length noted.trace_is ∙ length-map noted.placed (λ (p : Placed). p.page)
          ∙ sym (length-map noted.placed (λ (p : Placed). p.region)) ∙ ap length noted.regions_are ∙ length-map fetched (λ (event : Event). event.span.region)
          ∙ sym (length-map fetched (λ (event : Event). event.span)));
    }
  where
    spans_at : (events : List Event) → regions_at events ≡ map (λ span. span.region) (map (λ (event : Event). event.span) events)
    spans_at [] = refl
    spans_at (event ∷ events) = ap (λ (rs : List RegionRows). event.span.region ∷ rs) (spans_at events)

pub over : (plan : PlanView) (t : TreeView) (s : SweepView) (given rest : List Row) (fetched unread : List Event) → IsSweeping plan t s given rest fetched unread
    → IsSweepOver t.schema plan s.dim s.is_descending t.next (regions t)
over plan t s given rest fetched unread sweeping = record { planned = sweeping.swept.planned; kind = sweeping.swept.kind; are = sweeping.swept.sound.regions_are }

-- what was given is the answer on the tree as it was at the start
answer_of : (plan : PlanView) (start t : TreeView) (cells lines_then : List (List Cell)) → Keeps start t → cells ≡ lines_then
    → ((rows : List Row) → AreTableRows (regions t) rows → IsMeaning (record { schema = t.schema; rows = rows }) plan.asked lines_then) → IsAnswer start plan.asked cells
answer_of plan start t cells lines_then kept is means rows are =
    let at_t : AreTableRows (regions t) rows = subst (λ (placed : List Placed). AreTableRows (regions_in placed) rows) (sym kept.regions.placed) are in
    subst (λ (schema : Schema). IsMeaning (record { schema = schema; rows = rows }) plan.asked cells) kept.regions.schema
    (subst (λ (cs : List (List Cell)). IsMeaning (record { schema = t.schema; rows = rows }) plan.asked cs) (sym is) (means rows at_t))

-- so many rows as the limit says are given where it is filled, and not before
filled : (limit : Option ℕ) (count : ℕ) → IsFilled limit count → IfSome limit (λ most. count ≤ most) → limit ≡ Some count
filled None count full few = absurd full
filled (Some most) count full few = let is : most ≡ count = omega arith in ap (λ (m : ℕ). Some m) is

module _ (plan : PlanView) (start t : TreeView) (s : SweepView) (rows : List (List Cell)) (plain : plan.asked.group ≡ []) (kept : Keeps start t) (fetches : t.trace.fetches ≡ fetches_then start.trace.fetches (length t.trace.pages))
    (swept : HasSwept plan t s rows) (kind : IsSwept plan.kind) (full : IsFilled plan.asked.limit (length rows)) (few : IfSome plan.asked.limit (λ most. length rows ≤ most)) where
  -- the limit is filled
  is_filled : plan.asked.limit ≡ Some (length swept.given)
  is_filled = filled plan.asked.limit (length rows) full few ∙ ap (λ (n : ℕ). Some n) (given_long plan t s rows swept)

  has_some : 1 ≤ length swept.given
  has_some = by_count (length swept.given) refl
    where
      by_count : (n : ℕ) → n ≡ length swept.given → 1 ≤ n
      by_count zero e = absurd (not_empty plan.kind kind (empty_where t.schema plan swept.sweeping.swept.planned (is_filled ∙ ap (λ (m : ℕ). Some m) (sym e))))
      by_count (suc n) e = omega arith

  pub filled_fetched : HasFetched plan (begun start) t
  filled_fetched =
      let (front, row, is) = some_last swept.given has_some in
      visits_fetched plan start t swept.fetched kept swept.sweeping.noted fetches
      (visits_at plan start t swept.fetched kept
      (row_visits plan s.dim s.is_descending t.schema (regions t) (map (λ event. event.span) swept.fetched) swept.sweeping.swept.kind plain
      (stops t.schema plan s.dim s.is_descending (regions t) (rows_held s.held) front swept.rest swept.fetched swept.unread row
      (subst (λ (given : List Row). IsUnderWay t.schema plan s.dim s.is_descending (regions t) (rows_held s.held) given swept.rest swept.fetched swept.unread) is swept.sweeping.under_way)
      (is_filled ∙ ap (λ (given : List Row). Some (length given)) is) (swept.reached front row is))))

  pub filled_answered : IsAnswer start plan.asked rows
  filled_answered =
      answer_of plan start t rows _ kept swept.cells
      (λ table are. stops_with_the_meaning t.schema plan s.dim s.is_descending t.next (regions t) table (rows_held s.held) swept.given swept.rest swept.fetched swept.unread
      (over plan t s swept.given swept.rest swept.fetched swept.unread swept.sweeping) plain are swept.sweeping.under_way is_filled)

-- the limit isn't filled by the rows that stand in the answer, nor by those that were given
pub short : (plan : PlanView) (t : TreeView) (s : SweepView) (rows : List (List Cell)) (swept : HasSwept plan t s rows) → IfSome plan.asked.limit (λ most. length rows < most)
    → IfSome plan.asked.limit (λ most. length swept.given < most)
short plan t s rows swept left = subst (λ (n : ℕ). IfSome plan.asked.limit (λ most. n < most)) (given_long plan t s rows swept) left

-- it answered that no row is left
module _ (plan : PlanView) (start mid t : TreeView) (s new_s : SweepView) (rows : List (List Cell)) (plain : plan.asked.group ≡ []) (kept : Keeps start t) (fetches : t.trace.fetches ≡ fetches_then start.trace.fetches (length t.trace.pages))
    (swept : HasSwept plan mid s rows) (same : t.schema ≡ mid.schema) (left : IfSome plan.asked.limit (λ most. length rows < most))
    (ends : HasEnded plan t new_s swept.given swept.rest swept.fetched swept.unread) where
  is_short : IfSome plan.asked.limit (λ n. length swept.given < n)
  is_short = short plan mid s rows swept left

  pub ended_fetched : HasFetched plan (begun start) t
  ended_fetched =
      visits_fetched plan start t (swept.fetched ++ swept.unread) kept ends.sweeping.noted fetches
      (visits_at plan start t (swept.fetched ++ swept.unread) kept
      (row_visits plan new_s.dim new_s.is_descending t.schema (regions t) (map (λ event. event.span) (swept.fetched ++ swept.unread)) ends.sweeping.swept.kind plain
      (runs_out t.schema plan new_s.dim new_s.is_descending (regions t) (rows_held new_s.held) swept.given (swept.fetched ++ swept.unread) ends.sweeping.under_way is_short)))

  pub ended_answered : IsAnswer start plan.asked rows
  ended_answered =
      answer_of plan start t rows _ kept (swept.cells ∙ ap (λ (schema : Schema). lines schema plan.asked.items swept.given) (sym same))
      (λ table are. runs_out_with_the_meaning t.schema plan new_s.dim new_s.is_descending t.next (regions t) table (rows_held new_s.held) swept.given (swept.fetched ++ swept.unread) []
      (over plan t new_s swept.given [] (swept.fetched ++ swept.unread) [] ends.sweeping) plain are ends.sweeping.under_way is_short)

-- ---- what the loop keeps of the tree and the answer

pub begun_fetches : (old new : TreeView) → new ≡ begun old → new.trace.fetches ≡ fetches_then old.trace.fetches (length new.trace.pages)
begun_fetches old new is = ap (λ (t : TreeView). t.trace.fetches) is ∙ sym (ap (λ (t : TreeView). fetches_then old.trace.fetches (length t.trace.pages)) is)

-- the limit of a query is that of its plan
pub filled_is : (query asked : Asked) (n : ℕ) (rows : List (List Cell)) → query ≡ asked → n ≡ length rows → IsFilled query.limit n → IsFilled asked.limit (length rows)
filled_is query asked n rows same long full = subst (λ (m : ℕ). IsFilled asked.limit m) long (subst (λ (q : Asked). IsFilled q.limit n) same full)

pub left_is : (query asked : Asked) (n : ℕ) (rows : List (List Cell)) → query ≡ asked → n ≡ length rows → IfSome query.limit (λ most. n < most) → IfSome asked.limit (λ most. length rows < most)
left_is query asked n rows same long left = subst (λ (m : ℕ). IfSome asked.limit (λ most. m < most)) long (subst (λ (q : Asked). IfSome q.limit (λ most. n < most)) same left)

-- within the limit there are no more rows
pub few_none : (limit : Option ℕ) (rows : List (List Cell)) → rows ≡ [] → IfSome limit (λ most. length rows ≤ most)
few_none None rows none = tt
few_none (Some most) rows none = let long = ap length none in omega arith

pub few_more : (limit : Option ℕ) (rows : List (List Cell)) (row : List Cell) (more : List (List Cell)) → more ≡ rows ++ row ∷ [] → IfSome limit (λ most. length rows < most)
    → IfSome limit (λ most. length more ≤ most)
few_more None rows row more is left = tt
few_more (Some most) rows row more is left = let long = ap length is in let parts = length-append rows (row ∷ []) in omega arith

-- no rows have every shape
pub shaped_none : (q : Asked) (rows : List (List Cell)) → rows ≡ [] → IsShaped q rows
shaped_none q rows none = record {
  wide = subst (λ (rs : List (List Cell)). AllByRecursion (λ cells. length cells ≡ length q.items) rs) (sym none) tt;
  few = few_none q.limit rows none;
}

pub noted_more : {A : Type 0} (r : Result A ReadFault) (start t new : TreeView) → t.trace.fetches ≡ fetches_then start.trace.fetches (length t.trace.pages) → NotesPages t new r
    → new.trace.fetches ≡ fetches_then start.trace.fetches (length new.trace.pages)
noted_more r start t new is notes =
    notes.fetches_are ∙ ap (λ (f : ℕ). fetches_then f (length notes.noted)) is ∙ noted_sum start.trace.fetches (length t.trace.pages) (length notes.noted)
    ∙ ap (fetches_then start.trace.fetches) (sym (length-append t.trace.pages notes.noted) ∙ ap length (sym notes.trace_is))

pub wide_more : (n : ℕ) (rows : List (List Cell)) (row : List Cell) → AllByRecursion (λ cells. length cells ≡ n) rows → length row ≡ n → AllByRecursion (λ cells. length cells ≡ n) (rows ++ row ∷ [])
wide_more n [] row all is = (is, tt)
wide_more n (other ∷ rows) row all is = (all.0, wide_more n rows row all.1 is)
