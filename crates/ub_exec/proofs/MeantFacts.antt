-- What is made of the selected rows is what the query means on the tree's table.
use Rattle.std.proofs.Common.{◌≡◌, ◌≢◌, ◌<◌, ◌≤◌, inl, inr, ℕ, zero, suc, List, [], ◌∷◌, ◌++◌, Option, Some, Contains, filter, get_or, length, map, ◌∙◌, sym, ap, refl, arith, subst, IsPermutation}
use Rattle.std.proofs.lemmas.List.{length-map}
use Rattle.std.proofs.lemmas.List.Sorted.{IsPermutation-sym}
use Rattle.std.proofs.lemmas.List.Elements.{Contains-append_cases, Contains-append_left, Contains-append_right}
use Rattle.std.specs.List.{All, AllByRecursion}
use Rattle.ub_bigmin.specs.Box.{Corners}
use Rattle.ub_boxes.specs.Boxes.{Covering, cover_of}
use Rattle.ub_exec.proofs.VisitFacts.{visits_of, those_among}
use Rattle.ub_exec.specs.Answers.{IsSwept}
use Rattle.ub_filter.specs.Choice.{is_chosen}
use Rattle.ub_filter.specs.declared.choice.Choice.{Choice}
use Rattle.ub_exec.specs.Visits.{HasFetched, HasWalked, MeetsIn, fetches_then}
use Rattle.ub_planning.specs.Plan.{PlanView, planned_kind, kept_by, plan_of}
use Rattle.ub_planning.specs.declared.planned.Kind.{Kind}
use Rattle.ub_planning.specs.declared.planned.Kind.TheVariants.{Empty, Scan, Sweep}
use Rattle.ub_planning.specs.Visits as plan
use Rattle.ub_filter.proofs.Laws.{chosen_are_selected}
use Rattle.ub_planning.proofs.Laws.{meeting_hold_the_tables, plans_are_empty}
use Rattle.ub_planning.specs.Visits.{AreMeeting, AreVisitsBy, fetched_rows}
use Rattle.ub_region.specs.Those.{AreThose}
use Rattle.ub_query.proofs.Laws.{all_at, contains_none, contains_cases}
use Rattle.ub_query.specs.Groups.{is_selected, selected}
use Rattle.ub_query.specs.Meaning.{IsMeaning}
use Rattle.ub_query.specs.Shape.{Asked, Shape}
use Rattle.ub_query.specs.declared.cell.Cell.{Cell}
use Rattle.ub_region.specs.Regions.{AreTableRows, rows_of}
use Rattle.ub_table.specs.Table.{Table, IsInOrder}
use Rattle.ub_table.specs.declared.row.Row.{Row}
use Rattle.ub_table.specs.declared.schema.Schema.{Schema}
use Rattle.ub_tree.specs.Placed.{Placed, regions_in}
use Rattle.ub_tree.specs.View.{TreeView, IsSound, regions}

-- where it is 0, a plan is empty
pub empty_where : (schema : Schema) (p : PlanView) → p ≡ plan_of schema p.asked → p.asked.limit ≡ Some 0 → p.kind ≡ Empty
empty_where schema p is none = ap (λ (x : PlanView). x.kind) is ∙ (plans_are_empty schema p.asked).1 (inr none)

pub nothing_fetched : (p : PlanView) (t new : TreeView) → p ≡ plan_of t.schema p.asked → p.asked.limit ≡ Some 0 → new.trace.pages ≡ t.trace.pages → new.trace.fetches ≡ t.trace.fetches → HasFetched p t new
nothing_fetched p t new is limit trace fetches = record {
  visits = [];
  visits_are = subst (λ (kind : Kind). AreVisitsBy kind t.schema p (regions t) []) (sym (empty_where t.schema p is limit)) refl;
  visited = [];
  there = tt;
  regions_are = refl;
  trace_is = trace ∙ nil t.trace.pages;
  fetches_are = fetches;
}
  where
    nil : (xs : List ℕ) → xs ≡ xs ++ []
    nil [] = refl
    nil (x ∷ xs) = ap (λ (ys : List ℕ). x ∷ ys) (nil xs)

-- an empty plan has no boxes
no_boxes : (schema : Schema) (p : PlanView) → p ≡ plan_of schema p.asked → p.kind ≡ Empty → p.covering.boxes ≡ []
no_boxes schema p is empty = ap (λ (x : PlanView). x.covering.boxes) is ∙ kept (planned_kind schema p.asked) (cover_of schema p.asked.filter) (sym (ap (λ (x : PlanView). x.kind) is) ∙ empty)
  where
    kept : (kind : Kind) (covering : Covering) → kind ≡ Empty → (kept_by kind covering).boxes ≡ []
    kept Empty covering e = refl
    kept Scan covering e = cc
    kept (Sweep dim is_descending) covering e = cc

-- no region meets a box where there is none
none_meet : (spans visits : List plan.Span) → AreThose (λ span. plan.Meets [] span.from span.to) spans visits → visits ≡ []
none_meet [] visits are = are
none_meet (span ∷ spans) visits (inl are) = let within = are.0.1.1.1 in absurd (omega arith)
none_meet (span ∷ spans) visits (inr are) = none_meet spans visits are.1

-- the regions that meet the boxes are the visits of a plan that is no sweep
pub scan_visits : (t : TreeView) (p : PlanView) (kind : Kind) (visits : List plan.Span) → p ≡ plan_of t.schema p.asked → p.kind ≡ kind → ¬ IsSwept kind
    → AreThose (λ span. plan.Meets p.covering.boxes span.from span.to) (plan.spans_of t.schema (regions t)) visits → AreVisitsBy kind t.schema p (regions t) visits
scan_visits t p Empty visits is e apart are =
    none_meet (plan.spans_of t.schema (regions t)) visits
    (subst (λ (boxes : List Corners). AreThose (λ span. plan.Meets boxes span.from span.to) (plan.spans_of t.schema (regions t)) visits) (no_boxes t.schema p is e) are)
scan_visits t p Scan visits is e apart are = are
scan_visits t p (Sweep dim is_descending) visits is e apart are = absurd (apart tt)

pub walk_fetched : (p : PlanView) (t new : TreeView) (rows : List Row) → IsSound t → p ≡ plan_of t.schema p.asked → ¬ IsSwept p.kind → HasWalked p.covering.boxes t new rows → HasFetched p t new
walk_fetched p t new rows sound is apart walk =
    let (visits, are, same) = visits_of t sound p.covering.boxes walk.visited walk.visits in
    record {
      visits = visits;
      visits_are = scan_visits t p p.kind visits is refl apart are;
      visited = walk.visited;
      there = those_among (MeetsIn t p.covering.boxes) t.placed walk.visited walk.visits;
      regions_are = sym same;
      trace_is = walk.trace_is;
      fetches_are = walk.fetches_are ∙ ap (fetches_then t.trace.fetches) (lengths walk.visited visits same);
    }
  where
    lengths : (visited : List Placed) (visits : List plan.Span) → map (λ span. span.region) visits ≡ regions_in visited → length visited ≡ length visits
    lengths visited visits same =
        sym (length-map visited (λ (x : Placed). x.region)) ∙ ap length (sym same) ∙ length-map visits (λ (s : plan.Span). s.region)

fetched_are : (visits : List plan.Span) → fetched_rows visits ≡ rows_of (map (λ span. span.region) visits)
fetched_are [] = refl
fetched_are (span ∷ visits) = ap (λ (rows : List Row). span.region.rows ++ rows) (fetched_are visits)

pub get_or_same : {X : Type 0} (xs : List X) (k : ℕ) (d e : X) → k < length xs → get_or xs k d ≡ get_or xs k e
get_or_same [] k d e within = absurd (omega arith)
get_or_same (x ∷ xs) zero d e within = refl
get_or_same (x ∷ xs) (suc k) d e within = get_or_same xs k d e (omega arith)

-- the rows of regions that were visited are rows of the tree
walked_row : (visited placed : List Placed) → AllByRecursion (Contains placed) visited → (row : Row) → Contains (rows_of (regions_in visited)) row → Contains (rows_of (regions_in placed)) row
walked_row [] placed are row there = absurd (contains_none row there)
walked_row (p ∷ visited) placed are row there = elim (Contains-append_cases p.region.rows (rows_of (regions_in visited)) row there) [
  | inl here ↦ row_of placed p are.0 row here
  | inr later ↦ walked_row visited placed are.1 row later
]
  where
    row_of : (placed : List Placed) (p : Placed) → Contains placed p → (row : Row) → Contains p.region.rows row → Contains (rows_of (regions_in placed)) row
    row_of [] p there row here = absurd (contains_none p there)
    row_of (q ∷ placed) p there row here = elim (contains_cases q placed p there) [
      | inl same ↦ Contains-append_left q.region.rows (rows_of (regions_in placed)) row (subst (λ (x : Placed). Contains x.region.rows row) (sym same) here)
      | inr more ↦ Contains-append_right q.region.rows (rows_of (regions_in placed)) row (row_of placed p more row here)
    ]

module _ (t : TreeView) (sound : IsSound t) (rows : List Row) (are : AreTableRows (regions t) rows) where
  abbrev pub table_of : Table
  table_of = record { schema = t.schema; rows = rows }

  -- the selected rows that a walk hands over are those of the table
  pub handed_are : (p : PlanView) (new : TreeView) (handed : List Row) → p ≡ plan_of t.schema p.asked → p.asked.limit ≢ Some 0 → HasWalked p.covering.boxes t new handed
      → IsPermutation (selected table_of p.asked.filter) (filter (is_selected t.schema p.asked.filter) handed)
  handed_are p new handed is some walk =
      let (visits, those, same) = visits_of t sound p.covering.boxes walk.visited walk.visits in
      let chosen = is_selected t.schema p.asked.filter in
      let meeting : AreMeeting t.schema (plan_of t.schema p.asked).covering.boxes (regions t) visits = subst (λ (x : PlanView). AreMeeting t.schema x.covering.boxes (regions t) visits) is those in
      let held = meeting_hold_the_tables t.schema p.asked t.next (regions t) rows visits some sound.regions_are are meeting in
      let from : filter chosen (fetched_rows visits) ≡ filter chosen handed =
      ap (filter chosen) (fetched_are visits ∙ ap rows_of same ∙ sym walk.rows_are) in
      IsPermutation-sym (filter chosen handed) (selected table_of p.asked.filter)
      (subst (λ (rs : List Row). IsPermutation rs (selected table_of p.asked.filter)) from held)

  pub numbers_are : All (λ row. row.number ≤ 16777215) rows
  numbers_are k d within =
      let last = sound.last_next in
      let row = get_or rows k d in
      let here : Contains rows row = (k, within, get_or_same rows k row d within) in
      let below : row.number < t.next = all_at (λ r. r.number < t.next) (rows_of (regions t)) row sound.regions_are.numbered ((are.same row).0 here) in
      omega (arith, below, last)

  -- those that are chosen of what a walk hands over
  pub chosen_are : (p : PlanView) (new : TreeView) (handed : List Row) → p ≡ plan_of t.schema p.asked → p.asked.limit ≢ Some 0 → (choice : Choice) → HasWalked p.covering.boxes t new handed
      → filter (is_chosen choice t.schema p) handed ≡ filter (is_selected t.schema p.asked.filter) handed
  chosen_are p new handed is some choice walk =
      ap (λ (x : PlanView). filter (is_chosen choice t.schema x) handed) is
      ∙ chosen_are_selected choice t.schema p.asked t.next (regions t) handed some sound.regions_are
      (λ row there. walked_row walk.visited t.placed (those_among (MeetsIn t p.covering.boxes) t.placed walk.visited walk.visits) row (subst (λ (rs : List Row). Contains rs row) walk.rows_are there))

  -- so what is made of them is what the query means
  pub answered : (p : PlanView) → p ≡ plan_of t.schema p.asked → p.asked.limit ≢ Some 0 → (choice : Choice) (q : Asked) → q ≡ p.asked
      → (new : TreeView) (handed : List Row) → HasWalked p.covering.boxes t new handed → (cells : List (List Cell))
      → ((table : Table) (condition : Option Shape) → table.schema ≡ t.schema → IsInOrder table.rows → All (λ row. row.number ≤ 16777215) table.rows
      → IsPermutation (selected table condition) (filter (is_chosen choice t.schema p) handed) → IsMeaning table (record q { filter = condition }) cells)
      → IsMeaning table_of p.asked cells
  answered p is some choice q same new handed walk cells finish =
      let at_q : IsMeaning table_of (record q { filter = p.asked.filter }) cells = finish table_of p.asked.filter refl are.ascending numbers_are
      (subst (λ (rs : List Row). IsPermutation (selected table_of p.asked.filter) rs) (sym (chosen_are p new handed is some choice walk)) (handed_are p new handed is some walk)) in
      subst (λ (x : Asked). IsMeaning table_of (record x { filter = p.asked.filter }) cells) same at_q
