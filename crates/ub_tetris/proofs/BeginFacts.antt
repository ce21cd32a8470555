-- A sweep begins: the trace begins anew, and the whole tree is awaited.
use Rattle.std.proofs.Common.{◌≡◌, ◌∙◌, ◌∷◌, ℕ, Bool, true, false, List, [], Option, Some, None, Result, Ok, Err, inl, refl, sym, ap, subst}
use Rattle.std.proofs.lemmas.Bool.{true≢false}
use Rattle.std.specs.Prelude.{IsTrue}
use Rattle.std.specs.Result.{IsErrAnd}
use Rattle.ub_bigmin.specs.Box.{Corners, IsValueInSpan}
use Rattle.ub_planning.proofs.Laws.{plans_have_visits}
use Rattle.ub_planning.specs.Plan.{PlanView, plan_of}
use Rattle.ub_planning.specs.Visits.{AreEvents, AreSweptVisits, AreVisitsBy, Event, Span}
use Rattle.ub_planning.specs.declared.planned.Kind.{Kind}
use Rattle.ub_planning.specs.declared.planned.Kind.TheVariants.{Sweep}
use Rattle.ub_region.specs.Regions.{AreRegions}
use Rattle.ub_store.specs.View.{emptied}
use Rattle.ub_table.specs.Region.{RegionRows}
use Rattle.ub_table.specs.declared.schema.Schema.{Schema}
use Rattle.ub_tetris.proofs.AheadFacts.{ahead_begun}
use Rattle.ub_tetris.proofs.BoxFacts.{have_dimension}
use Rattle.ub_tetris.proofs.LargestFacts.{AreWithin, are_largest}
use Rattle.ub_tetris.proofs.MachineFacts.{begins}
use Rattle.ub_tetris.proofs.StretchFacts.{whole_is_told}
use Rattle.ub_tetris.specs.Awaited.{AreStretchesOf, IsFirstOn, IsWholeAwaited, awaited_at}
use Rattle.ub_tetris.specs.Effects.{Begins}
use Rattle.ub_tetris.specs.Sweep.{HasBegun, HoldsOneOf, IsStarted, IsSweepOf, IsSwept, SweepView}
use Rattle.ub_tetris.specs.declared.course.Course.{Course}
use Rattle.ub_tetris.specs.declared.fault.SweepFault.{SweepFault}
use Rattle.ub_tetris.specs.declared.fault.SweepFault.TheVariants as sweep
use Rattle.ub_tetris.specs.inner.Events.{Ahead, AwaitsWhole, IsCourseOf, ahead_on}
use Rattle.ub_tetris.specs.inner.Turns.{begun_view}
use Rattle.ub_tree.proofs.Laws.{Keeps-by, begun_traced}
use Rattle.ub_tree.specs.Stretches.{Stretch, whole_of}
use Rattle.ub_tree.specs.View.{TreeView, regions}
use Rattle.ub_tree.specs.declared.fault.TreeFault.TheVariants.{Failed as HasFailed}

-- ---- the events of a sweep

events_swept : (group : List ℕ) (schema : Schema) (plan : PlanView) (dim : ℕ) (down : Bool) (regions : List RegionRows) (visits : List Span) → AreSweptVisits group schema plan dim down regions visits
    → (events : List Event) × AreEvents schema plan.covering.boxes dim down regions events
events_swept [] schema plan dim down regions visits are = (are.events, are.events_are)
events_swept (column ∷ group) schema plan dim down regions visits are = (are.events, are.events_are)

events_there : (schema : Schema) (plan : PlanView) (dim : ℕ) (down : Bool) (next : ℕ) (regions : List RegionRows) → plan ≡ plan_of schema plan.asked → plan.kind ≡ Sweep dim down
    → AreRegions schema next regions → (events : List Event) × AreEvents schema plan.covering.boxes dim down regions events
events_there schema plan dim down next regions planned kind are =
    let (visits, those) = plans_have_visits schema plan.asked next regions are in
    let of_plan : AreVisitsBy plan.kind schema plan regions visits = subst (λ (p : PlanView). AreVisitsBy p.kind schema p regions visits) (sym planned) those in
    events_swept plan.asked.group schema plan dim down regions visits (subst (λ (k : Kind). AreVisitsBy k schema plan regions visits) kind of_plan)

-- ---- a sweep that was begun

same_course : (course : Course) (dim : ℕ) (is_descending : Bool) (found : Option Course) → found ≡ Some course → found ≡ Some (record { dim = dim; is_descending = is_descending })
    → course ≡ record { dim = dim; is_descending = is_descending }
same_course course dim is_descending found is also = cc

begun_at : (new : TreeView) (plan : PlanView) (dim : ℕ) (down : Bool) (value : Option ℕ) → IsSwept new plan dim down → new.trace.pages ≡ []
    → IsFirstOn down (IsValueInSpan plan.covering.boxes (whole_of new).span.from (whole_of new).span.to dim) value
    → HasBegun plan new (record { dim = dim; is_descending = down; held = []; awaited = awaited_at (whole_of new) value; is_failed = false })
begun_at new plan dim down value swept none first =
    let (events, are) = events_there new.schema plan dim down new.next (regions new) swept.planned swept.kind swept.sound.regions_are in
    let (rest, under_way) = begins new.schema plan dim down new.next (regions new) events (record { planned = swept.planned; kind = swept.kind; are = swept.sound.regions_are }) are in
    let awaited = ahead_begun new swept.sound plan.covering.boxes dim down events are value (awaited_at (whole_of new) value) first refl in
    record {
      rest = rest;
      unread = events;
      sweeping = record {
        working = refl;
        swept = swept;
        under_way = under_way;
        values = tt;
        noted = record { placed = []; there = tt; regions_are = refl; trace_is = none };
        awaited = awaited;
        largest = are_largest new swept.sound plan.covering.boxes dim down [] events are (awaited_at (whole_of new) value) awaited (whole_within value);
      };
    }
  where
    whole_within : (value : Option ℕ) → AreWithin (HoldsOneOf []) new plan.covering.boxes (awaited_at (whole_of new) value)
    whole_within None = tt
    whole_within (Some v) = (inl refl, tt)

module _ (t new : TreeView) (plan : PlanView) (course : Course) (whole : Stretch) (ahead : Ahead) (view : SweepView) (found : Option Course) (boxes : List Corners)
    (began : new ≡ record t { trace = emptied t.trace }) (is_whole : whole ≡ whole_of new) (awaits : AwaitsWhole boxes course whole ahead) (seen : view ≡ begun_view ahead) where
  view_is : view ≡ record { dim = course.dim; is_descending = course.is_descending; held = []; awaited = awaited_at (whole_of new) awaits.value; is_failed = false }
  view_is = seen ∙ ap begun_view awaits.is ∙ ap (λ (s : Stretch). begun_view (ahead_on course (awaited_at s awaits.value))) is_whole

  first_is : IsFirstOn course.is_descending (IsValueInSpan boxes (whole_of new).span.from (whole_of new).span.to course.dim) awaits.value
  first_is = subst (λ (s : Stretch). IsFirstOn course.is_descending (IsValueInSpan boxes s.span.from s.span.to course.dim) awaits.value) is_whole awaits.first

  pub started_by : IsStarted new view
  started_by = subst (λ (v : SweepView). IsStarted new v) (sym view_is) (record { none = refl; working = refl; stretches = told awaits.value })
    where
      told : (value : Option ℕ) → AreStretchesOf new (awaited_at (whole_of new) value)
      told None = tt
      told (Some v) = (whole_is_told new, tt)

  module _ (some : found ≡ Some course)
      (of_plan : (course : Course) → IsCourseOf plan course → found ≡ Some course)
      (boxes_are : boxes ≡ plan.covering.boxes) (dim : ℕ) (is_descending : Bool) where
    on_course : plan ≡ plan_of t.schema plan.asked → plan.kind ≡ Sweep dim is_descending → course ≡ record { dim = dim; is_descending = is_descending }
    on_course planned kind = same_course course dim is_descending found some (of_plan (record { dim = dim; is_descending = is_descending }) (kind, have_dimension t.schema plan dim is_descending planned kind))

    first_on : (on : course ≡ record { dim = dim; is_descending = is_descending }) → IsFirstOn is_descending (IsValueInSpan plan.covering.boxes (whole_of new).span.from (whole_of new).span.to dim) awaits.value
    first_on on =
        subst (λ (c : Course). IsFirstOn c.is_descending (IsValueInSpan plan.covering.boxes (whole_of new).span.from (whole_of new).span.to c.dim) awaits.value) on
        (subst (λ (bs : List Corners). IsFirstOn course.is_descending (IsValueInSpan bs (whole_of new).span.from (whole_of new).span.to course.dim) awaits.value) boxes_are first_is)

    view_on : (on : course ≡ record { dim = dim; is_descending = is_descending })
        → view ≡ record { dim = dim; is_descending = is_descending; held = []; awaited = awaited_at (whole_of new) awaits.value; is_failed = false }
    view_on on =
        view_is ∙ ap (λ (c : Course). record { dim = c.dim; is_descending = c.is_descending; held = []; awaited = awaited_at (whole_of new) awaits.value; is_failed = false }) on

    pub begun_by : IsSwept t plan dim is_descending → HasBegun plan new view
    begun_by swept =
        let on = on_course swept.planned swept.kind in
        let of_new : IsSwept new plan dim is_descending = record {
          sound = (Keeps-by t new (begun_traced t new began)).sound swept.sound;
          planned = swept.planned ∙ ap (λ (s : Schema). plan_of s plan.asked) (sym (ap (λ (v : TreeView). v.schema) began));
          kind = swept.kind;
        } in
        subst (λ (v : SweepView). HasBegun plan new v) (sym (view_on on))
        (begun_at new plan dim is_descending awaits.value of_new (ap (λ (v : TreeView). v.trace.pages) began) (first_on on))

    -- over any tree it awaits the whole
    pub met_by : IsSweepOf t.schema plan dim is_descending
        → (view.dim ≡ dim) × (view.is_descending ≡ is_descending) × IsWholeAwaited plan.covering.boxes dim is_descending new view.awaited
    met_by (planned, kind) =
        let on = on_course planned kind in
        subst (λ (v : SweepView). (v.dim ≡ dim) × (v.is_descending ≡ is_descending) × IsWholeAwaited plan.covering.boxes dim is_descending new v.awaited) (sym (view_on on))
        (refl, refl, record { value = awaits.value; first = first_on on; is = refl })

-- ---- where it is no sweep

none_begun : (course : Course) (ahead : Ahead) (view : SweepView) → ahead ≡ ahead_on course [] → view ≡ begun_view ahead → view ≡ begun_view (ahead_on course [])
none_begun course ahead view none is = is ∙ ap begun_view none

module _ (t : TreeView) (course : Course) (ahead : Ahead) (view : SweepView) (none : ahead ≡ ahead_on course []) (is : view ≡ begun_view ahead) where
  pub nothing_awaited : view.awaited ≡ []
  nothing_awaited = ap (λ (v : SweepView). v.awaited) (none_begun course ahead view none is)

  pub nothing_started : IsStarted t view
  nothing_started = subst (λ (v : SweepView). IsStarted t v) (sym (none_begun course ahead view none is)) (record { none = refl; working = refl; stretches = tt })

-- ---- a tree that hasn't failed

pub never_failed : {X : Type 0} (old mid : TreeView) (has_failed : Bool) → mid ≡ record old { trace = emptied old.trace } → has_failed ≡ mid.is_failed → has_failed ≡ false → IsTrue old.is_failed → X
never_failed old mid has_failed began is not_failed failed = absurd (true≢false (sym failed ∙ sym (ap (λ (v : TreeView). v.is_failed) began) ∙ sym is ∙ not_failed))

-- one that has refuses
pub failed_begins : {T : Type 0} (old mid : TreeView) (has_failed : Bool) → mid ≡ record old { trace = emptied old.trace } → has_failed ≡ mid.is_failed → has_failed ≡ true
    → Begins {A = T} old mid (Err (sweep.Tree HasFailed))
failed_begins old mid has_failed began is failed = record { same = began; faults = sym (ap (λ (v : TreeView). v.is_failed) began) ∙ sym is ∙ failed }

-- or memory was refused
pub short_begins : {T : Type 0} (r : Result T SweepFault) (old mid : TreeView) → IsErrAnd r (λ x. x ≡ sweep.Memory) → mid ≡ record old { trace = emptied old.trace } → Begins old mid r
short_begins (Ok x) old mid is began = absurd is
short_begins (Err f) old mid is began = rw is (record { same = began; faults = tt })
