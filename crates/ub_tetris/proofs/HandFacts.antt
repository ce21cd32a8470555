-- A sweep hands over the rows of the regions that are left, one region after the other.
use Rattle.std.proofs.Common.{◌≡◌, ◌∙◌, ◌++◌, ◌∷◌, ℕ, Bool, List, [], Result, Ok, Err, Contains, filter, inl, inr, refl, sym, ap, subst, append_assoc}
use Rattle.std.proofs.lemmas.List.{append-nil}
use Rattle.std.proofs.lemmas.List.Elements.{Contains-append_right}
use Rattle.std.specs.Prelude.{OnOk, is_err}
use Rattle.ub_filter.specs.Choice.{is_chosen}
use Rattle.ub_planning.specs.Plan.{PlanView}
use Rattle.ub_planning.specs.Visits.{AreEvents, Event, selected_rows}
use Rattle.ub_query.proofs.Laws.{contains_here}
use Rattle.ub_query.specs.Groups.{is_selected}
use Rattle.ub_store.specs.View.{Trace}
use Rattle.ub_table.specs.Region.{RegionRows}
use Rattle.ub_table.specs.declared.row.Row.{Row}
use Rattle.ub_table.specs.declared.schema.Schema.{Schema}
use Rattle.ub_tetris.proofs.AheadFacts.{ahead_after, ahead_opened, ahead_same, first_event, none_ahead}
use Rattle.ub_tetris.proofs.BoxFacts.{have_dimension}
use Rattle.ub_tetris.proofs.BrokenFacts.{noted_still, placed_of}
use Rattle.ub_tetris.proofs.EffectFacts.{AwaitsThese, Sweeps-none, sweeps_then, swept_taken, swept_traced}
use Rattle.ub_tetris.proofs.FoundFacts.{found_none, found_then, found_turn}
use Rattle.ub_tetris.proofs.LargestFacts.{going}
use Rattle.ub_tetris.proofs.MachineFacts.{selected_append}
use Rattle.ub_tetris.proofs.StepFacts.{chosen_of, noted_more, parts_given, region_at}
use Rattle.ub_tetris.proofs.StepsFacts.{first_then}
use Rattle.ub_tetris.specs.Awaited.{AwaitedRegion, AwaitedStretch, HaveDimension}
use Rattle.ub_tetris.specs.Effects.{HasFound, Sweeps, of_reading}
use Rattle.ub_tetris.specs.Machine.{regions_at}
use Rattle.ub_tetris.specs.Sweep.{AreAhead, AreNoted, HandsOver, HasBrokenOff, HasHandedOver, IsAwaited, IsSweeping, SweepView}
use Rattle.ub_tetris.specs.declared.fault.SweepFault.{SweepFault}
use Rattle.ub_tetris.specs.declared.state.State.{State}
use Rattle.ub_tetris.specs.inner.Events.{IsFirstAwaited}
use Rattle.ub_tetris.specs.inner.Turns.{AsksNext, HasComeTo, HasFetched, HasOpened, HasTakenNext, IsAskedFor, view_by, view_of}
use Rattle.ub_tree.proofs.Laws.{IsTraced, Keeps-by}
use Rattle.ub_tree.specs.Placed.{Placed}
use Rattle.ub_tree.specs.View.{IsSound, TreeView, regions}
use Rattle.ub_tree.specs.declared.read_fault.ReadFault.{ReadFault}

-- so far as it has come: the first regions of those that were left were fetched, and these are their rows
pub record HasCome (plan : PlanView) (t now : TreeView) (s s_now : SweepView) (fetched unread : List Event) (rows : List Row) : Type 0 where
  pub read : List Event
  pub left : List Event
  pub parts : unread ≡ read ++ left
  pub awaited : AreAhead now plan.covering.boxes s.dim s.is_descending s_now.awaited left
  pub noted : AreNoted now (fetched ++ read)
  pub rows_are : rows ≡ selected_rows t.schema plan (regions_at read)

come_none : (plan : PlanView) (t : TreeView) (s : SweepView) (given rest : List Row) (fetched unread : List Event) → IsSweeping plan t s given rest fetched unread
    → HasCome plan t t s s fetched unread []
come_none plan t s given rest fetched unread of = record {
  read = [];
  left = unread;
  parts = refl;
  awaited = of.awaited;
  noted = subst (λ (events : List Event). AreNoted t events) (sym (append-nil fetched)) of.noted;
  rows_are = refl;
}

module _ (plan : PlanView) (t now : TreeView) (s s_now : SweepView) (given rest : List Row) (fetched unread : List Event) (rows : List Row)
    (of : IsSweeping plan t s given rest fetched unread) (traced : IsTraced t now) (awaits : AwaitsThese s s_now s_now.awaited) (come : HasCome plan t now s s_now fetched unread rows) where
  schema_is : now.schema ≡ t.schema
  schema_is = ap (λ (v : TreeView). v.schema) traced

  placed_is : now.placed ≡ t.placed
  placed_is = ap (λ (v : TreeView). v.placed) traced

  sound_still : IsSound now
  sound_still = (Keeps-by t now traced).sound of.swept.sound

  events_still : AreEvents now.schema plan.covering.boxes s.dim s.is_descending (regions now) ((fetched ++ come.read) ++ come.left)
  events_still =
      let whole : fetched ++ unread ≡ (fetched ++ come.read) ++ come.left = ap (λ (events : List Event). fetched ++ events) come.parts ∙ sym (append_assoc fetched come.read come.left) in
      subst (λ (v : TreeView). AreEvents v.schema plan.covering.boxes s.dim s.is_descending (regions v) ((fetched ++ come.read) ++ come.left)) (sym traced)
      (subst (λ (events : List Event). AreEvents t.schema plan.covering.boxes s.dim s.is_descending (regions t) events) whole of.under_way.events)

  parts_next : (event : Event) (later : List Event) → come.left ≡ event ∷ later → unread ≡ (come.read ++ event ∷ []) ++ later
  parts_next event later one = come.parts ∙ ap (λ (events : List Event). come.read ++ events) one ∙ sym (append_assoc come.read (event ∷ []) later)

  module _ (s_then : SweepView) (next : AwaitedStretch) (taken : HasTakenNext s_now s_then next) where
    abbrev a : AwaitedRegion
    a = record { value = next.value; region = next.stretch.span }

    ahead_then : AreAhead now plan.covering.boxes s.dim s.is_descending (next ∷ s_then.awaited) come.left
    ahead_then = ahead_same now plan.covering.boxes s.dim s.is_descending s_now.awaited (next ∷ s_then.awaited) come.left taken.parts come.awaited

    -- the next region that is left
    next_left : next.stretch.level ≡ 0
        → (event : Event) × (later : List Event) × (come.left ≡ event ∷ later) × IsAwaited now a event × AreAhead now plan.covering.boxes s.dim s.is_descending s_then.awaited later
    next_left lowest =
        first_event now sound_still plan.covering.boxes s.dim s.is_descending (fetched ++ come.read) come.left events_still next s_then.awaited ahead_then lowest
        (subst (λ (down : Bool). IsFirstAwaited down next s_then.awaited) awaits.1 taken.first)

    -- what stands on its page
    its_region : (event : Event) (later : List Event) (p : Placed) → come.left ≡ event ∷ later → IsAwaited now a event → Contains now.placed p
        → p.region.first ≡ next.stretch.span.first → p.region ≡ event.span.region
    its_region event later p one awaited there first =
        region_at plan t s given rest fetched unread event a p (going of)
        (Contains-append_right fetched unread event
        (subst (λ (events : List Event). Contains events event) (sym (come.parts ∙ ap (λ (events : List Event). come.read ++ events) one))
        (Contains-append_right come.read (event ∷ later) event (contains_here event later))))
        awaited.first (subst (λ (placed : List Placed). Contains placed p) placed_is there) first

    -- its page was noted
    noted_next : (new : TreeView) (event : Event) (later : List Event) (p : Placed) → come.left ≡ event ∷ later → IsAwaited now a event → Contains now.placed p
        → p.page ≡ next.stretch.span.page → p.region.first ≡ next.stretch.span.first → new.placed ≡ now.placed → new.trace.pages ≡ now.trace.pages ++ next.stretch.span.page ∷ []
        → AreNoted new (fetched ++ (come.read ++ event ∷ []))
    noted_next new event later p one awaited there page first placed trace =
        subst (λ (events : List Event). AreNoted new events) (append_assoc fetched come.read (event ∷ []))
        (noted_more now new (fetched ++ come.read) event p come.noted placed there (its_region event later p one awaited there first)
        (trace ∙ ap (λ (number : ℕ). now.trace.pages ++ number ∷ []) (sym page)))

    -- a stretch was opened
    come_opened : (new : TreeView) (new_s : SweepView) (more : List Row) → HasOpened plan now new s_then new_s next → more ≡ [] → HasCome plan t new s new_s fetched unread (rows ++ more)
    come_opened new new_s more opened none =
        let dim_is : s_then.dim ≡ s.dim = ap (λ (v : SweepView). v.dim) taken.same ∙ awaits.0 in
        let down_is : s_then.is_descending ≡ s.is_descending = ap (λ (v : SweepView). v.is_descending) taken.same ∙ awaits.1 in
        let dims : HaveDimension s_then.dim plan.covering.boxes = rw dim_is (have_dimension t.schema plan s.dim s.is_descending of.swept.planned of.swept.kind) in
        record {
          read = come.read;
          left = come.left;
          parts = come.parts;
          awaited = subst (λ (v : TreeView). AreAhead v plan.covering.boxes s.dim s.is_descending new_s.awaited come.left) (sym opened.same)
              (ahead_opened now sound_still plan.covering.boxes s.dim s.is_descending (fetched ++ come.read) come.left events_still next s_then.awaited opened.queued new_s.awaited opened.now_are
              (rw (← dim_is, ← down_is) opened.valued) (parts_given plan now new s_then new_s next opened dims) ahead_then);
          noted = subst (λ (v : TreeView). AreNoted v (fetched ++ come.read)) (sym opened.same) come.noted;
          rows_are = ap (λ (rs : List Row). rows ++ rs) none ∙ append-nil rows ∙ come.rows_are;
        }

    -- or the rows of a region were handed over
    come_fetched : (new : TreeView) (new_s : SweepView) (more : List Row) → new_s.awaited ≡ s_then.awaited → HasFetched plan now new next more → HasCome plan t new s new_s fetched unread (rows ++ more)
    come_fetched new new_s more still has =
        let (event, later, one, awaited, is_ahead) = next_left has.read.lowest in
        let (p, there, page, is) = has.read.stands sound_still awaited.there in
        let first : p.region.first ≡ next.stretch.span.first = ap (λ (r : RegionRows). r.first) is ∙ has.read.first in
        let region : p.region ≡ event.span.region = its_region event later p one awaited there first in
        let chosen : more ≡ filter (is_selected t.schema plan.asked.filter) event.span.region.rows =
        has.rows_are ∙ ap (λ (schema : Schema). filter (is_chosen has.choice schema plan) has.region.rows) schema_is
        ∙ ap (λ (r : RegionRows). filter (is_chosen has.choice t.schema plan) r.rows) (sym is)
        ∙ chosen_of plan t s given rest fetched unread has.choice p (going of) (subst (λ (placed : List Placed). Contains placed p) placed_is there)
        ∙ ap (λ (r : RegionRows). filter (is_selected t.schema plan.asked.filter) r.rows) region in
        record {
          read = come.read ++ event ∷ [];
          left = later;
          parts = parts_next event later one;
          awaited = subst (λ (those : List AwaitedStretch). AreAhead new plan.covering.boxes s.dim s.is_descending those later) (sym still)
              (ahead_after now plan.covering.boxes s.dim s.is_descending new s_then.awaited later has.read.same is_ahead);
          noted = noted_next new event later p one awaited there page first (ap (λ (v : TreeView). v.placed) has.read.same) has.read.noted.pages_are;
          rows_are = ap (λ (rs : List Row). rs ++ more) come.rows_are ∙ ap (λ (rs : List Row). selected_rows t.schema plan (regions_at come.read) ++ rs) chosen
              ∙ ap (λ (rs : List Row). selected_rows t.schema plan (regions_at come.read) ++ filter (is_selected t.schema plan.asked.filter) rs) (sym (append-nil event.span.region.rows))
              ∙ sym (selected_append t.schema plan come.read (event ∷ []));
        }

    come_more : (new : TreeView) (new_s : SweepView) (more : List Row) → HasComeTo plan now new s_then new_s next more → HasCome plan t new s new_s fetched unread (rows ++ more)
    come_more new new_s more has = elim has.how [
      | inl opened ↦ come_opened new new_s more opened.0 opened.1
      | inr read ↦ come_fetched new new_s more read.0 read.1
    ]

    -- it was asked for, and that was ended by a fault
    come_broken : (new : TreeView) → IsAskedFor now new next → new.placed ≡ now.placed → HasBrokenOff new fetched unread
    come_broken new asked placed = elim asked [
      | inl kept ↦ record {
        read = come.read;
        left = come.left;
        parts = come.parts;
        noted = noted_still now new (fetched ++ come.read) come.noted placed (ap (λ (trace : Trace). trace.pages) kept);
      }
      | inr noted ↦
          let (event, later, one, awaited, is_ahead) = next_left noted.0 in
          let (p, there, page, first) = placed_of now next.stretch.span awaited.there in
          record {
            read = come.read ++ event ∷ [];
            left = later;
            parts = parts_next event later one;
            noted = noted_next new event later p one awaited there page first placed noted.1.pages_are;
          }
    ]

  -- no stretch is left
  come_end : s_now.awaited ≡ [] → HasHandedOver plan now fetched unread rows
  come_end past =
      let none : come.left ≡ [] = none_ahead now plan.covering.boxes s.dim s.is_descending s_now.awaited come.left past come.awaited in
      let whole : come.read ≡ unread = sym (append-nil come.read) ∙ ap (λ (events : List Event). come.read ++ events) (sym none) ∙ sym come.parts in
      record {
        rows_are = come.rows_are ∙ ap (λ (events : List Event). selected_rows t.schema plan (regions_at events)) whole ∙ ap (λ (schema : Schema). selected_rows schema plan (regions_at unread)) (sym schema_is);
        noted = subst (λ (events : List Event). AreNoted now (fetched ++ events)) whole come.noted;
      }

-- ---- what the loop keeps

pub record Hands {K : Type 0} (HasTaken : K → List Row → K → Type 0) (plan : PlanView) (t now : TreeView) (s s_now : State) (k k_now : K) : Type 0 where
  pub effect : Sweeps {A = Unit {0}} plan (view_of s) (view_of s_now) t now (Ok tt)
  pub held : s_now.held ≡ s.held
  pub handed : HandsOver HasTaken k k_now
      (λ rows. HasFound plan t (view_of s) (view_of s_now) rows
      × ((given rest : List Row) (fetched unread : List Event) → IsSweeping plan t (view_of s) given rest fetched unread → HasCome plan t now (view_of s) (view_of s_now) fetched unread rows))

pub Hands-none : {K : Type 0} (HasTaken : K → List Row → K → Type 0) (plan : PlanView) (t : TreeView) (s : State) (k : K) → Hands HasTaken plan t t s s k k
Hands-none {K = K} HasTaken plan t s k = record {
  effect = Sweeps-none plan tt (view_of s) t;
  held = refl;
  handed = (
    [],
    λ before taken has. subst (λ (rows : List Row). HasTaken before rows k) (sym (append-nil taken)) has,
    (found_none plan t (view_of s), λ given rest fetched unread is. come_none plan t (view_of s) given rest fetched unread is),
  );
}

module _ {K : Type 0} (HasTaken : K → List Row → K → Type 0) (plan : PlanView) (t now : TreeView) (s s_now : State) (k k_now : K) (so_far : Hands HasTaken plan t now s s_now k k_now) where
  traced_so_far : IsTraced t now
  traced_so_far = swept_traced plan tt (view_of s) (view_of s_now) t now so_far.effect

  pub schema_so_far : now.schema ≡ t.schema
  schema_so_far = ap (λ (v : TreeView). v.schema) traced_so_far

  awaits_so_far : AwaitsThese (view_of s) (view_of s_now) (view_of s_now).awaited
  awaits_so_far = (so_far.effect.still.0, so_far.effect.still.1, refl)

  module _ (s_then : State) (next : AwaitedStretch) (taken : HasTakenNext (view_of s_now) (view_of s_then) next) where
    pub Hands-more : (new : TreeView) (new_s : State) (k_new : K) → new_s.held ≡ s_now.held → HandsOver HasTaken k_now k_new (HasComeTo plan now new (view_of s_then) (view_of new_s) next)
        → AsksNext {A = Unit {0}} plan now new (view_of s_then) (view_of new_s) next (Ok tt) → Hands HasTaken plan t new s new_s k k_new
    Hands-more new new_s k_new held (more, then, come_to) asks =
        let (rows, takes, (found, come)) = so_far.handed in
        let effect = swept_taken plan (Ok tt) (view_of s_now) (view_of s_then) (view_of new_s) next now new taken (asks.effect (first_then (view_of s_now) (view_of s_then) next taken)) in
        record {
          effect = sweeps_then plan tt (Ok tt) (view_of s) (view_of s_now) (view_of new_s) t now new refl so_far.effect effect;
          held = held ∙ so_far.held;
          handed = (
            rows ++ more,
            λ before taken_before has. subst (λ (rs : List Row). HasTaken before rs k_new) (append_assoc taken_before rows more) (then before (taken_before ++ rows) (takes before taken_before has)),
            (
              found_then plan t now (view_of s) (view_of s_now) (view_of new_s) rows more traced_so_far awaits_so_far found
                  (found_turn plan now new (view_of s_now) (view_of s_then) (view_of new_s) next more taken come_to),
              λ given rest fetched unread is.
                  come_more plan t now (view_of s) (view_of s_now) given rest fetched unread rows is traced_so_far awaits_so_far (come given rest fetched unread is) (view_of s_then) next taken new (view_of new_s) more come_to,
            ),
          );
        }

    pub hands_broken : (new : TreeView) → IsAskedFor now new next → new.placed ≡ now.placed → (given rest : List Row) (fetched unread : List Event)
        → IsSweeping plan t (view_of s) given rest fetched unread → HasBrokenOff new fetched unread
    hands_broken new asked placed given rest fetched unread is =
        let (rows, takes, (found, come)) = so_far.handed in
        come_broken plan t now (view_of s) (view_of s_now) given rest fetched unread rows is traced_so_far awaits_so_far (come given rest fetched unread is) (view_of s_then) next taken new asked placed

    pub hands_effect : (new : TreeView) (new_s : State) (e : ReadFault) → AsksNext {A = Unit {0}} plan now new (view_of s_then) (view_of new_s) next (Err e)
        → Sweeps {A = Unit {0}} plan (view_of s) (view_of new_s) t new (of_reading {A = Unit {0}} (Err e))
    hands_effect new new_s e asks =
        sweeps_then plan tt (of_reading (Err e)) (view_of s) (view_of s_now) (view_of new_s) t now new refl so_far.effect
        (swept_taken plan (of_reading (Err e)) (view_of s_now) (view_of s_then) (view_of new_s) next now new taken (asks.effect (first_then (view_of s_now) (view_of s_then) next taken)))

  module _ (past : (view_of s_now).awaited ≡ []) where
    pub hands_end : HandsOver HasTaken k k_now
        (λ rows. HasFound plan t (view_of s) (view_of s_now) rows
        × ((given rest : List Row) (fetched unread : List Event) → IsSweeping plan t (view_of s) given rest fetched unread → HasHandedOver plan now fetched unread rows))
    hands_end =
        let (rows, takes, (found, come)) = so_far.handed in (
          rows,
          takes,
          (
            found,
            λ given rest fetched unread is.
                come_end plan t now (view_of s) (view_of s_now) given rest fetched unread rows is traced_so_far awaits_so_far (come given rest fetched unread is) past,
          ),
        )

    -- and those held stay held
    pub hands_left : view_of s_now ≡ record (view_of s) { awaited = [] }
    hands_left = rw (so_far.effect.still.0, so_far.effect.still.1, so_far.held, past) refl

-- what contracts see of it
pub left_seen : (r : Result (Unit {0}) SweepFault) (s new_s : State) (view : SweepView) (has_failed : Bool) → view ≡ view_of s → has_failed ≡ is_err r
    → OnOk r (view_of new_s ≡ record (view_of s) { awaited = [] }) → OnOk r (view_by new_s has_failed ≡ record view { awaited = [] })
left_seen (Err e) s new_s view has_failed same is left = tt
left_seen (Ok x) s new_s view has_failed same is left = ap (λ (b : Bool). view_by new_s b) is ∙ left ∙ ap (λ (v : SweepView). record v { awaited = [] }) (sym same)
