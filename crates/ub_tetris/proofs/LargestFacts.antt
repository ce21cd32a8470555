-- What a sweep awaits are the largest stretches within which no region was fetched. In the midst of a call that isn't so yet: some were
-- opened since they are due. Once none is due, a region within each of those was fetched.
use Rattle.std.proofs.Common.{◌≡◌, ◌≢◌, ◌≤◌, ◌⊎◌, ◌∙◌, ◌++◌, ◌∷◌, ℕ, true, false, Bool, List, [], Contains, inl, inr, refl, sym, ap, subst, slice_index}
use Rattle.std.proofs.lemmas.List.Elements.{All-contains, Contains-append_cases, Contains-append_left, Contains-append_right}
use Rattle.std.specs.List.{All, AllByRecursion}
use Rattle.ub_bigmin.specs.Box.{Corners}
use Rattle.ub_planning.proofs.Laws.{past_is}
use Rattle.ub_planning.specs.Plan.{PlanView}
use Rattle.ub_planning.specs.Visits.{AreEvents, Event, IsAlong, IsEventBefore}
use Rattle.ub_query.proofs.Laws.{all_at, all_from_contains, all_weaker, contains_here, contains_later, contains_map, contains_none}
use Rattle.ub_query.specs.Lead.{swept_order}
use Rattle.ub_table.proofs.Laws.{not_before_self}
use Rattle.ub_table.specs.Keys.{IsBefore}
use Rattle.ub_table.specs.declared.row.Key.{Key}
use Rattle.ub_table.specs.declared.row.Row.{Row}
use Rattle.ub_tetris.proofs.AheadFacts.{first_up_to_event, none_ahead}
use Rattle.ub_tetris.proofs.AlongFacts.{IsUpTo, along_never, along_up_to, up_to_chain}
use Rattle.ub_tetris.proofs.ArrangeFacts.{all_of, rising_apart}
use Rattle.ub_tetris.proofs.NearFacts.{first_of_all, value_there}
use Rattle.ub_tetris.proofs.SpansFacts.{IsOne, event_first, event_is, event_meets, event_of_region, events_rise, first_is_one, region_of_event}
use Rattle.ub_tetris.proofs.StretchFacts.{region_of_address, stretch_kept, traced_parts}
use Rattle.ub_tetris.proofs.TimesFacts.{held_once}
use Rattle.ub_tetris.specs.Awaited.{AwaitedStretch, IsFirstValue, times_held}
use Rattle.ub_tetris.specs.Held.{AreHeldBy, HeldRow, rows_held}
use Rattle.ub_tetris.specs.Machine.{IsRowAlong, IsUnderWay}
use Rattle.ub_tetris.specs.Sweep.{AreAhead, AreLargest, AreNoted, HoldsOneOf, IsLargest, IsPartOfOne, IsSweeping, IsSwept, SweepView}
use Rattle.ub_tetris.specs.inner.Turns.{IsNoneDue}
use Rattle.ub_tree.proofs.Laws.{IsTraced}
use Rattle.ub_tree.specs.Spans.{Meets, Region}
use Rattle.ub_tree.specs.Stretches.{IsStretchOf, Stretch, holds_key, whole_of}
use Rattle.ub_tree.specs.View.{IsSound, TreeView, regions, spans_of}

-- ---- the whole, and parts of stretches that have a property

abbrev pub IsWithin : (Stretch → Type 0) → TreeView → List Corners → Stretch → Type 0
IsWithin Has t boxes stretch = (stretch ≡ whole_of t) ⊎ IsPartOfOne Has t boxes stretch

abbrev pub AreWithin : (Stretch → Type 0) → TreeView → List Corners → List AwaitedStretch → Type 0
AreWithin Has t boxes awaited = AllByRecursion (λ a. IsWithin Has t boxes a.stretch) awaited

-- where those that have the one property have another
pub within_turned : (Has Also : Stretch → Type 0) (t : TreeView) (boxes : List Corners) (awaited : List AwaitedStretch)
    → ((above : Stretch) → IsStretchOf t above → Has above → Also above) → AreWithin Has t boxes awaited → AreWithin Also t boxes awaited
within_turned Has Also t boxes awaited turn all =
    all_weaker (λ (a : AwaitedStretch). IsWithin Has t boxes a.stretch) (λ (a : AwaitedStretch). IsWithin Also t boxes a.stretch)
    (λ a within. one a.stretch within) awaited all
  where
    one : (stretch : Stretch) → IsWithin Has t boxes stretch → IsWithin Also t boxes stretch
    one stretch (inl whole) = inl whole
    one stretch (inr (above, told, has, parts, are, there)) = inr (above, told, turn above told has, parts, are, there)

-- after the tree was read
pub within_traced : (Has : Stretch → Type 0) (t new : TreeView) (boxes : List Corners) (awaited : List AwaitedStretch) → IsTraced t new
    → IsTraced new t → AreWithin Has t boxes awaited → AreWithin Has new boxes awaited
within_traced Has t new boxes awaited traced back all =
    all_weaker (λ (a : AwaitedStretch). IsWithin Has t boxes a.stretch) (λ (a : AwaitedStretch). IsWithin Has new boxes a.stretch)
    (λ a within. one a.stretch within) awaited all
  where
    one : (stretch : Stretch) → IsWithin Has t boxes stretch → IsWithin Has new boxes stretch
    one stretch (inl whole) = inl (whole ∙ sym (ap whole_of traced))
    one stretch (inr (above, told, has, parts, are, there)) = inr (
      above,
      stretch_kept t new (ap (λ (v : TreeView). v.store.honest) traced) (ap (λ (v : TreeView). v.store.pages) traced)
          (ap (λ (v : TreeView). v.inner) traced) above told,
      has,
      parts,
      traced_parts new t back boxes above parts are,
      there,
    )

-- ---- in the midst of a call

-- a stretch was opened since it is due: no row that is held lies before its event value, nor does that of a region that is left
pub record IsReached (boxes : List Corners) (dim : ℕ) (down : Bool) (held : List HeldRow) (left : List Event) (stretch : Stretch) : Type 0 where
  pub value : ℕ
  pub first : IsFirstValue boxes dim down stretch.span value
  pub past : All (λ row. ¬ (IsRowAlong dim down row value)) (rows_held held)
  pub later : (event : Event) → Contains left event → IsUpTo down value event.value

-- it was opened for a region that was fetched, or since it is due
abbrev pub IsOpened : List Corners → ℕ → Bool → List HeldRow → List Event → List Event → Stretch → Type 0
IsOpened boxes dim down held fetched left stretch = HoldsOneOf fetched stretch ⊎ IsReached boxes dim down held left stretch

-- the next region is fetched, before whose event value no row lies that is held then
module _ (boxes : List Corners) (dim : ℕ) (down : Bool) (held held_then : List HeldRow) (fetched : List Event) (event : Event) (left : List Event)
    (past : All (λ row. ¬ (IsRowAlong dim down row event.value)) (rows_held held_then)) where
  reached_then : (stretch : Stretch) → IsReached boxes dim down held (event ∷ left) stretch → IsReached boxes dim down held_then left stretch
  reached_then stretch is = record {
    value = is.value;
    first = is.first;
    past = all_of (λ (row : Row). ¬ (IsRowAlong dim down row is.value)) (rows_held held_then)
        (λ row there. up_to_chain down is.value event.value (slice_index row.dims dim) (is.later event (contains_here event left))
        (All-contains (λ (row : Row). ¬ (IsRowAlong dim down row event.value)) (rows_held held_then) row past there));
    later = λ other there. is.later other (contains_later event left other there);
  }

  pub opened_then : (stretch : Stretch) → IsOpened boxes dim down held fetched (event ∷ left) stretch
      → IsOpened boxes dim down held_then (fetched ++ event ∷ []) left stretch
  opened_then stretch (inl (e, there, holds)) = inl (e, Contains-append_left fetched (event ∷ []) e there, holds)
  opened_then stretch (inr is) = inr (reached_then stretch is)

-- how a sweep stands to its plan and its tree in the midst of a call: as between calls, but that some of those awaited are parts of
-- stretches that were opened since they are due
pub record IsGoing (plan : PlanView) (t : TreeView) (s : SweepView) (given rest : List Row) (fetched left : List Event) : Type 0 where
  pub working : s.is_failed ≡ false
  pub swept : IsSwept t plan s.dim s.is_descending
  pub under_way : IsUnderWay t.schema plan s.dim s.is_descending (regions t) (rows_held s.held) given rest fetched left
  pub values : AreHeldBy t.schema (swept_order plan.asked.group plan.asked.order) s.held
  pub noted : AreNoted t fetched
  pub awaited : AreAhead t plan.covering.boxes s.dim s.is_descending s.awaited left
  pub within : AreWithin (IsOpened plan.covering.boxes s.dim s.is_descending s.held fetched left) t plan.covering.boxes s.awaited

pub going : {plan : PlanView} {t : TreeView} {s : SweepView} {given rest : List Row} {fetched left : List Event}
    → IsSweeping plan t s given rest fetched left → IsGoing plan t s given rest fetched left
going {plan = plan} {t = t} {s = s} {fetched = fetched} {left = left} of = record {
  working = of.working;
  swept = of.swept;
  under_way = of.under_way;
  values = of.values;
  noted = of.noted;
  awaited = of.awaited;
  within = within_turned (HoldsOneOf fetched) (IsOpened plan.covering.boxes s.dim s.is_descending s.held fetched left) t plan.covering.boxes
      s.awaited (λ above told holds. inl holds)
      (all_weaker (λ (a : AwaitedStretch). IsLargest t plan.covering.boxes fetched a.stretch)
      (λ (a : AwaitedStretch). IsWithin (HoldsOneOf fetched) t plan.covering.boxes a.stretch) (λ a is. is.above) s.awaited of.largest.each);
}

-- ---- at its end

-- a stretch with an event value meets the boxes
pub valued_meets : (boxes : List Corners) (dim : ℕ) (down : Bool) (region : Region) (v : ℕ) → IsFirstValue boxes dim down region v
    → Meets boxes region
valued_meets boxes dim down region v first =
    let (b, p, is, inside, from, to, at) = value_there boxes dim down region v first in
    (_, (b, is, (p, inside, refl)), from, to)

module _ (t : TreeView) (sound : IsSound t) (boxes : List Corners) (dim : ℕ) (down : Bool) (fetched left : List Event)
    (are : AreEvents t.schema boxes dim down (regions t) (fetched ++ left)) (awaited : List AwaitedStretch)
    (ahead : AreAhead t boxes dim down awaited left) where
  -- no region was fetched that is left
  never_both : (e other : Event) (r : Region) → Contains fetched e → Contains left other → IsOne r e.span → Contains (spans_of t) r
      → other.span.region.first ≡ r.first → ⊥
  never_both e other r was will one there same =
      let here : Contains (fetched ++ left) e = Contains-append_left fetched left e was in
      let also : Contains (fetched ++ left) other = Contains-append_right fetched left other will in
      let its = event_is t boxes dim down (fetched ++ left) are sound other r also there same in
      let equal : e.value ≡ other.value =
      first_is_one boxes dim down r e.value other.value (event_first t boxes dim down (fetched ++ left) are e r here one)
      (event_first t boxes dim down (fetched ++ left) are other r also its) in
      elim (rising_apart (IsEventBefore down) fetched left e other (events_rise t boxes dim down (fetched ++ left) are) was will) [
        | inl along ↦ along_never down other.value (subst (λ (v : ℕ). IsAlong down v other.value) equal along)
        | inr (tied, sooner) ↦ not_before_self r.first
            (subst (λ (k : Key). IsBefore k r.first) (sym one.first) (subst (λ (k : Key). IsBefore e.span.region.first k) same sooner))
      ]

  -- so within none of those awaited was one
  none_fetched : (a : AwaitedStretch) → Contains awaited a → ¬ (HoldsOneOf fetched a.stretch)
  none_fetched a is (e, was, holds) =
      let here : Contains (fetched ++ left) e = Contains-append_left fetched left e was in
      let (r, there, one) = region_of_event t boxes dim down (fetched ++ left) are e here in
      let held : holds_key a.stretch r.first ≡ true = subst (λ (k : Key). holds_key a.stretch k ≡ true) (sym one.first) holds in
      let meets = event_meets t boxes dim down (fetched ++ left) are e r here one in
      let (other, will, same) = ahead.all r there meets (held_once r.first awaited a is held) in
      never_both e other r was will one there same

  -- and each other region that meets the boxes lies within one of them
  all_held : (r : Region) → Contains (spans_of t) r → Meets boxes r → ((e : Event) → Contains fetched e → e.span.region.first ≢ r.first)
      → 1 ≤ times_held r.first awaited
  all_held r there meets apart =
      let (e, is, same) = event_of_region t boxes dim down (fetched ++ left) are r there meets in
      elim (Contains-append_cases fetched left e is) [
        | inl was ↦ absurd (apart e was same)
        | inr will ↦ subst (λ (k : Key). 1 ≤ times_held k awaited) same (ahead.those e will)
      ]

  pub are_largest : AreWithin (HoldsOneOf fetched) t boxes awaited → AreLargest t boxes fetched awaited
  are_largest within = record {
    each = all_from_contains (λ (a : AwaitedStretch). IsLargest t boxes fetched a.stretch) awaited (λ a is. record {
      meets = valued_meets boxes dim down a.stretch.span a.value
          (all_at (λ (b : AwaitedStretch). IsFirstValue boxes dim down b.stretch.span b.value) awaited a ahead.valued is);
      none = none_fetched a is;
      above = all_at (λ (b : AwaitedStretch). IsWithin (HoldsOneOf fetched) t boxes b.stretch) awaited a within is;
    });
    all = all_held;
  }

  -- a region within a stretch that is reached, which has its event value
  reached_event : (held : List HeldRow) (stretch : Stretch) → IsStretchOf t stretch → IsReached boxes dim down held left stretch
      → (value : ℕ) × (e : Event) × Contains (fetched ++ left) e × (holds_key stretch e.span.region.first ≡ true)
      × All (λ row. ¬ (IsRowAlong dim down row value)) (rows_held held) × IsUpTo down e.value value
  reached_event held stretch told is =
      let (b, p, among, inside, from, to, at) = value_there boxes dim down stretch.span is.value is.first in
      let (r, there, holds, lies) = region_of_address t stretch _ sound told (from, to) in
      let (e, here, same) = event_of_region t boxes dim down (fetched ++ left) are r there (_, (b, among, (p, inside, refl)), lies.0, lies.1) in
      let one = event_is t boxes dim down (fetched ++ left) are sound e r here there same in (
        is.value,
        e,
        here,
        subst (λ (k : Key). holds_key stretch k ≡ true) (sym same) holds,
        is.past,
        first_of_all boxes dim down r e.value is.value (event_first t boxes dim down (fetched ++ left) are e r here one)
            (b, p, among, inside, lies.0, lies.1, at),
      )

-- none is due, so a region was fetched within each stretch that was opened
module _ (plan : PlanView) (t : TreeView) (s : SweepView) (given rest : List Row) (fetched left : List Event)
    (of : IsGoing plan t s given rest fetched left) (none : IsNoneDue s) where
  -- for the first of those held lies before all regions that are left
  none_left : (value : ℕ) (e : Event) → Contains left e → All (λ row. ¬ (IsRowAlong s.dim s.is_descending row value)) (rows_held s.held)
      → IsUpTo s.is_descending e.value value → ⊥
  none_left value e will past up_to = elim none [
    | inl nothing ↦
        let ended = none_ahead t plan.covering.boxes s.dim s.is_descending s.awaited left nothing of.awaited in
        contains_none e (subst (λ (events : List Event). Contains events e) ended will)
    | inr (next, there, first, row, (h, here, is_row, least), far) ↦
        let to_event : IsUpTo s.is_descending next.value e.value =
        first_up_to_event t of.swept.sound plan.covering.boxes s.dim s.is_descending fetched left of.under_way.events next s.awaited e of.awaited
        first will in
        let at : ℕ = slice_index row.dims s.dim in
        let before : IsAlong s.is_descending at value =
        along_up_to s.is_descending at e.value value
        (along_up_to s.is_descending at next.value e.value (past_is s.is_descending at next.value far) to_event) up_to in
        All-contains (λ (other : Row). ¬ (IsRowAlong s.dim s.is_descending other value)) (rows_held s.held) row past
        (subst (λ (other : Row). Contains (rows_held s.held) other) is_row (contains_map (λ (held : HeldRow). held.row) s.held h here)) before
  ]

  fetched_there : (above : Stretch) → IsStretchOf t above → IsOpened plan.covering.boxes s.dim s.is_descending s.held fetched left above
      → HoldsOneOf fetched above
  fetched_there above told (inl holds) = holds
  fetched_there above told (inr is) =
      let (value, e, here, holds, past, up_to) =
      reached_event t of.swept.sound plan.covering.boxes s.dim s.is_descending fetched left of.under_way.events s.awaited of.awaited s.held above told is in
      elim (Contains-append_cases fetched left e here) [
        | inl was ↦ (e, was, holds)
        | inr will ↦ absurd (none_left value e will past up_to)
      ]

  -- and so it stands between calls
  pub at_rest : IsSweeping plan t s given rest fetched left
  at_rest = record {
    working = of.working;
    swept = of.swept;
    under_way = of.under_way;
    values = of.values;
    noted = of.noted;
    awaited = of.awaited;
    largest = are_largest t of.swept.sound plan.covering.boxes s.dim s.is_descending fetched left of.under_way.events s.awaited of.awaited
        (within_turned (IsOpened plan.covering.boxes s.dim s.is_descending s.held fetched left) (HoldsOneOf fetched) t plan.covering.boxes s.awaited
        fetched_there of.within);
  }
