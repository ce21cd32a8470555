-- The stretches that a sweep awaits over a sound tree, and the events that are ahead of it: where one is opened, and where the region that
-- comes first is fetched.
use Rattle.std.proofs.Common.{◌≡◌, ◌≤◌, ◌∙◌, ℕ, Bool, true, false, List, [], ◌∷◌, ◌++◌, Contains, IsPermutation, Option, Some, None, inl, inr, refl, sym, ap, subst, arith}
use Rattle.std.proofs.lemmas.List.Elements.{Contains-append_right}
use Rattle.ub_bigmin.specs.Box.{Corners, IsValueInSpan}
use Rattle.ub_planning.proofs.Laws.{along_never}
use Rattle.ub_planning.specs.Visits.{AreEvents, Event, IsAlong, IsEventBefore}
use Rattle.ub_query.proofs.Laws.{Rising, all_at, all_from_contains, all_permutation, contains_cases, contains_from_map, contains_here, contains_later}
use Rattle.ub_table.proofs.Laws.{before_trans, not_before_self}
use Rattle.ub_table.specs.Keys.{IsBefore}
use Rattle.ub_table.specs.declared.row.Key.{Key}
use Rattle.ub_region.proofs.Laws.{before_or_same}
use Rattle.ub_tetris.proofs.AlongFacts.{IsUpTo, up_to_both, up_to_chain}
use Rattle.ub_tetris.proofs.ArrangeFacts.{least_first, rising_right}
use Rattle.ub_tetris.proofs.NearFacts.{first_of_all, never_before, value_inside, value_there}
use Rattle.ub_tetris.proofs.PlaceFacts.{below_told, place_opened}
use Rattle.ub_tetris.proofs.SpansFacts.{IsOne, event_first, event_is, event_meets, event_of_region, events_rise, first_is_one, region_of_event}
use Rattle.ub_tetris.proofs.StretchFacts.{all_inside, begins_held, held_from, lowest_is, lowest_there, region_lies, some_part, stretch_kept, whole_is_told}
use Rattle.ub_tetris.proofs.TimesFacts.{held_alone, held_by, held_once, times_append, times_cons, times_same, weight_most}
use Rattle.ub_tetris.specs.Awaited.{AreValued, AwaitedStretch, IsAwaitedBefore, IsFirstOn, IsFirstValue, awaited_at, stretches_of, times_held}
use Rattle.ub_tetris.specs.Sweep.{AreAhead, IsAwaited}
use Rattle.ub_tetris.specs.inner.Events.{IsFirstAwaited}
use Rattle.ub_tree.proofs.Laws.{IsTraced}
use Rattle.ub_tree.specs.Spans.{Meets, Region}
use Rattle.ub_tree.specs.Stretches.{ArePartsOf, IsStretchOf, Stretch, holds_key, whole_of}
use Rattle.ub_tree.specs.View.{IsSound, TreeView, regions, spans_of}

module _ (t : TreeView) (boxes : List Corners) (dim : ℕ) (down : Bool) where
  -- in whatever order they stand
  pub ahead_same : (xs ys : List AwaitedStretch) (events : List Event) → IsPermutation xs ys → AreAhead t boxes dim down xs events → AreAhead t boxes dim down ys events
  ahead_same xs ys events same ahead = record {
    told = all_permutation (λ (a : AwaitedStretch). IsStretchOf t a.stretch) xs ys same ahead.told;
    valued = all_permutation (λ (a : AwaitedStretch). IsFirstValue boxes dim down a.stretch.span a.value) xs ys same ahead.valued;
    apart = λ key. let most = ahead.apart key in let times = times_same key xs ys same in omega (arith, most, times);
    all = λ region there meets some. let times = times_same region.first xs ys same in ahead.all region there meets (omega (arith, some, times));
    those = λ event there. let some = ahead.those event there in let times = times_same event.span.region.first xs ys same in omega (arith, some, times);
  }

  -- none are awaited where no event is ahead
  pub none_ahead : (xs : List AwaitedStretch) (events : List Event) → xs ≡ [] → AreAhead t boxes dim down xs events → events ≡ []
  none_ahead xs [] none ahead = refl
  none_ahead xs (event ∷ events) none ahead =
      let some = ahead.those event (contains_here event events) in
      let times : times_held event.span.region.first xs ≡ 0 = ap (times_held event.span.region.first) none in
      absurd (omega (arith, some, times))

  -- after the tree was read
  pub ahead_after : (new : TreeView) (xs : List AwaitedStretch) (events : List Event) → IsTraced t new → AreAhead t boxes dim down xs events → AreAhead new boxes dim down xs events
  ahead_after new xs events traced ahead = record {
    told = all_from_contains (λ (a : AwaitedStretch). IsStretchOf new a.stretch) xs
        (λ a there. stretch_kept t new (ap (λ (v : TreeView). v.store.honest) traced) (ap (λ (v : TreeView). v.store.pages) traced) (ap (λ (v : TreeView). v.inner) traced) a.stretch
        (all_at (λ (b : AwaitedStretch). IsStretchOf t b.stretch) xs a ahead.told there));
    valued = ahead.valued;
    apart = ahead.apart;
    all = λ region there meets some. ahead.all region (subst (λ (v : TreeView). Contains (spans_of v) region) traced there) meets some;
    those = ahead.those;
  }

module _ (t : TreeView) (sound : IsSound t) (boxes : List Corners) (dim : ℕ) (down : Bool) (before events : List Event) (are : AreEvents t.schema boxes dim down (regions t) (before ++ events)) where
  among : (event : Event) → Contains events event → Contains (before ++ events) event
  among event there = Contains-append_right before events event there

  its_region : (event : Event) → Contains events event → (r : Region) × Contains (spans_of t) r × IsOne r event.span
  its_region event there = region_of_event t boxes dim down (before ++ events) are event (among event there)

  -- ---- a stretch is opened

  pub ahead_opened : (next : AwaitedStretch) (awaited queued now : List AwaitedStretch) → IsPermutation (awaited ++ queued) now → AreValued boxes dim down queued
      → ArePartsOf t boxes next.stretch (stretches_of queued) → AreAhead t boxes dim down (next ∷ awaited) events → AreAhead t boxes dim down now events
  ahead_opened next awaited queued now same valued parts ahead =
      let place = place_opened t boxes dim down next awaited queued now same valued (inl parts) in
      record {
        told = all_from_contains (λ (a : AwaitedStretch). IsStretchOf t a.stretch) now
            (λ a there. below_told t boxes (next ∷ awaited) a.stretch ahead.told (place.below a there));
        valued = place.valued ahead.valued;
        apart = λ key. let most = ahead.apart key in let few = place.fewer ahead.told key in omega (arith, most, few);
        all = λ region there meets some. let few = place.fewer ahead.told region.first in ahead.all region there meets (omega (arith, some, few));
        those = λ event there. still event there (held_by event.span.region.first (next ∷ awaited) (ahead.those event there));
      }
    where
      still : (event : Event) → Contains events event → (a : AwaitedStretch) × Contains (next ∷ awaited) a × (holds_key a.stretch event.span.region.first ≡ true)
          → 1 ≤ times_held event.span.region.first now
      still event there (a, is_among, holds) =
          let key : Key = event.span.region.first in
          let after = times_same key (awaited ++ queued) now same in
          let both = times_append key awaited queued in
          elim (contains_cases next awaited a is_among) [
            | inl is ↦
                let (r, is_region, one) = its_region event there in
                let held : holds_key next.stretch r.first ≡ true =
                subst (λ (k : Key). holds_key next.stretch k ≡ true) (sym one.first) (subst (λ (b : AwaitedStretch). holds_key b.stretch key ≡ true) (sym is) holds) in
                let meets = event_meets t boxes dim down (before ++ events) are event r (among event there) one in
                let (part, is_part, here) = some_part t boxes next.stretch (stretches_of queued) r sound ahead.told.0 parts is_region held meets in
                let (q, is_queued, same_part) = contains_from_map (λ (b : AwaitedStretch). b.stretch) queued part is_part in
                let some = held_once key queued q is_queued
                (subst (λ (k : Key). holds_key q.stretch k ≡ true) one.first (subst (λ (p : Stretch). holds_key p r.first ≡ true) (sym same_part) here)) in
                omega (arith, after, both, some)
            | inr stays ↦
                let some = held_once key awaited a stays holds in
                omega (arith, after, both, some)
          ]

  -- ---- the first of those awaited, and the first event

  -- no event has a value before that of the stretch that it is within
  under_up_to : (a : AwaitedStretch) (awaited : List AwaitedStretch) (event : Event) → AreAhead t boxes dim down awaited events → Contains awaited a → Contains events event
      → holds_key a.stretch event.span.region.first ≡ true → IsUpTo down a.value event.value
  under_up_to a awaited event ahead is there holds =
      let (r, is_region, one) = its_region event there in
      let held = subst (λ (k : Key). holds_key a.stretch k ≡ true) (sym one.first) holds in
      first_of_all boxes dim down a.stretch.span a.value event.value (all_at (λ (b : AwaitedStretch). IsFirstValue boxes dim down b.stretch.span b.value) awaited a ahead.valued is)
      (value_inside boxes r a.stretch.span dim event.value (region_lies t a.stretch r sound (all_at (λ (b : AwaitedStretch). IsStretchOf t b.stretch) awaited a ahead.told is) is_region held)
      (value_there boxes dim down r event.value (event_first t boxes dim down (before ++ events) are event r (among event there) one)))

  -- nor before that of the first of those awaited
  pub first_up_to_event : (next : AwaitedStretch) (awaited : List AwaitedStretch) (event : Event) → AreAhead t boxes dim down awaited events → IsFirstAwaited down next awaited → Contains events event
      → IsUpTo down next.value event.value
  first_up_to_event next awaited event ahead first there =
      let (a, is, holds) = held_by event.span.region.first awaited (ahead.those event there) in
      up_to_chain down next.value a.value event.value
      (λ (along : IsAlong down a.value next.value). all_at (λ (b : AwaitedStretch). ¬ (IsAwaitedBefore down b next)) awaited a first is (inl along))
      (under_up_to a awaited event ahead is there holds)

  module _ (next : AwaitedStretch) (awaited : List AwaitedStretch) (ahead : AreAhead t boxes dim down (next ∷ awaited) events) (lowest : next.stretch.level ≡ 0) (first : IsFirstAwaited down next awaited) where
    abbrev region : Region
    region = next.stretch.span

    region_there : Contains (spans_of t) region
    region_there = lowest_there t next.stretch sound ahead.told.0 lowest

    held : holds_key next.stretch region.first ≡ true
    held = begins_held t next.stretch ahead.told.0

    region_meets : Meets boxes region
    region_meets = let (b, p, is, inside, from, to, at) = value_there boxes dim down region next.value ahead.valued.0 in (_, (b, is, (p, inside, refl)), from, to)

    -- its event
    found : (event : Event) × Contains events event × (event.span.region.first ≡ region.first)
    found = ahead.all region region_there region_meets (held_once region.first (next ∷ awaited) next (contains_here next awaited) held)

    one : IsOne region found.0.span
    one = event_is t boxes dim down (before ++ events) are sound found.0 region (among found.0 found.1) region_there found.2

    same_value : next.value ≡ found.0.value
    same_value = first_is_one boxes dim down region next.value found.0.value ahead.valued.0 (event_first t boxes dim down (before ++ events) are found.0 region (among found.0 found.1) one)

    first_of_both : IsFirstAwaited down next (next ∷ awaited)
    first_of_both = (never_before down next, first)

    -- no event is before it
    least : (event : Event) → Contains events event → ¬ (IsEventBefore down event found.0)
    least event there (inl along) = first_up_to_event next (next ∷ awaited) event ahead first_of_both there (subst (λ (v : ℕ). IsAlong down event.value v) (sym same_value) along)
    least event there (inr (same, sooner)) =
        let (a, is, holds) = held_by event.span.region.first (next ∷ awaited) (ahead.those event there) in
        let none = all_at (λ (b : AwaitedStretch). ¬ (IsAwaitedBefore down b next)) (next ∷ awaited) a first_of_both is in
        let to_next : IsUpTo down a.value next.value = subst (λ (v : ℕ). IsUpTo down a.value v) (same ∙ sym same_value) (under_up_to a (next ∷ awaited) event ahead is there holds) in
        let equal : a.value ≡ next.value = up_to_both down a.value next.value to_next (λ (along : IsAlong down a.value next.value). none (inl along)) in
        let later : IsBefore event.span.region.first region.first = subst (λ (k : Key). IsBefore event.span.region.first k) found.2 sooner in
        none (inr (
          equal,
          elim (before_or_same a.stretch.span.first event.span.region.first (held_from a.stretch event.span.region.first holds)) [
            | inl is_before ↦ before_trans a.stretch.span.first event.span.region.first region.first is_before later
            | inr is_same ↦ subst (λ (k : Key). IsBefore k region.first) (sym is_same) later
          ],
        ))

    rise : Rising (IsEventBefore down) events
    rise = rising_right (IsEventBefore down) before events (events_rise t boxes dim down (before ++ events) are)

    -- no later event is within it
    other : (event : Event) (left : List Event) → events ≡ found.0 ∷ left → Contains left event → ¬ (holds_key next.stretch event.span.region.first ≡ true)
    other event left parts there holds =
        let here : Contains events event = subst (λ (es : List Event). Contains es event) (sym parts) (contains_later found.0 left event there) in
        let (r, is_region, its) = its_region event here in
        let is : r ≡ region = lowest_is t next.stretch r sound ahead.told.0 lowest is_region (subst (λ (k : Key). holds_key next.stretch k ≡ true) (sym its.first) holds) in
        let its_value : event.value ≡ found.0.value =
        first_is_one boxes dim down region event.value found.0.value
        (subst (λ (x : Region). IsFirstValue boxes dim down x event.value) is (event_first t boxes dim down (before ++ events) are event r (among event here) its))
        (event_first t boxes dim down (before ++ events) are found.0 region (among found.0 found.1) one) in
        let its_first : event.span.region.first ≡ found.0.span.region.first = sym its.first ∙ ap (λ (x : Region). x.first) is ∙ sym found.2 in
        elim (all_at (λ (e : Event). IsEventBefore down found.0 e) left event (subst (λ (es : List Event). Rising (IsEventBefore down) es) parts rise).0 there) [
          | inl along ↦ along_never down found.0.value (subst (λ (v : ℕ). IsAlong down found.0.value v) its_value along)
          | inr (same, sooner) ↦ not_before_self found.0.span.region.first (subst (λ (k : Key). IsBefore found.0.span.region.first k) its_first sooner)
        ]

    -- the first of those awaited is the first event, where it is a region; without it those awaited have the others
    pub first_event : (event : Event) × (left : List Event) × (events ≡ event ∷ left) × IsAwaited t (record { value = next.value; region = region }) event × AreAhead t boxes dim down awaited left
    first_event =
        let (left, parts) = least_first (IsEventBefore down) events found.0 rise found.1 least in (
          found.0,
          left,
          parts,
          record { there = region_there; first = sym found.2; value = same_value },
          record {
            told = ahead.told.1;
            valued = ahead.valued.1;
            apart = λ key. let most = ahead.apart key in let both = times_cons key next awaited in omega (arith, most, both);
            all = λ r there meets some.
                let both = times_cons r.first next awaited in
                let (event, is, same) = ahead.all r there meets (omega (arith, some, both)) in
                elim (contains_cases found.0 left event (subst (λ (es : List Event). Contains es event) parts is)) [
                  | inl own ↦
                      let at : region.first ≡ r.first = sym found.2 ∙ ap (λ (e : Event). e.span.region.first) own ∙ same in
                      absurd (held_alone r.first next awaited (ahead.apart r.first) (subst (λ (k : Key). holds_key next.stretch k ≡ true) at held) some)
                  | inr later ↦ (event, later, same)
                ];
            those = λ event there.
                let (a, is, holds) = held_by event.span.region.first (next ∷ awaited)
                (ahead.those event (subst (λ (es : List Event). Contains es event) (sym parts) (contains_later found.0 left event there))) in
                elim (contains_cases next awaited a is) [
                  | inl own ↦ absurd (other event left parts there (subst (λ (b : AwaitedStretch). holds_key b.stretch event.span.region.first ≡ true) (sym own) holds))
                  | inr stays ↦ held_once event.span.region.first awaited a stays holds
                ];
          },
        )

-- ---- it begins

module _ (t : TreeView) (sound : IsSound t) (boxes : List Corners) (dim : ℕ) (down : Bool) (events : List Event) (are : AreEvents t.schema boxes dim down (regions t) events) where
  pub ahead_begun : (value : Option ℕ) (awaited : List AwaitedStretch) → IsFirstOn down (IsValueInSpan boxes (whole_of t).span.from (whole_of t).span.to dim) value → awaited ≡ awaited_at (whole_of t) value
      → AreAhead t boxes dim down awaited events
  ahead_begun value awaited first is = subst (λ (those : List AwaitedStretch). AreAhead t boxes dim down those events) (sym is) (by_value value first)
    where
      none_first : (down : Bool) (P : ℕ → Type 0) (v : ℕ) → IsFirstOn down P None → ¬ (P v)
      none_first true P v none = none v
      none_first false P v none = none v

      inside : (event : Event) → Contains events event → (r : Region) × (holds_key (whole_of t) event.span.region.first ≡ true) × IsValueInSpan boxes (whole_of t).span.from (whole_of t).span.to dim event.value
      inside event there =
          let (r, is_region, one) = region_of_event t boxes dim down events are event there in
          let holds = all_inside t r sound is_region in (
            r,
            subst (λ (k : Key). holds_key (whole_of t) k ≡ true) one.first holds,
            value_inside boxes r (whole_of t).span dim event.value (region_lies t (whole_of t) r sound (whole_is_told t) is_region holds)
                (value_there boxes dim down r event.value (event_first t boxes dim down events are event r there one)),
          )

      by_value : (value : Option ℕ) → IsFirstOn down (IsValueInSpan boxes (whole_of t).span.from (whole_of t).span.to dim) value → AreAhead t boxes dim down (awaited_at (whole_of t) value) events
      by_value None first = record {
        told = tt;
        valued = tt;
        apart = λ key. omega arith;
        all = λ region there meets some. absurd (omega (arith, some));
        those = λ event there. absurd (none_first down _ event.value first (inside event there).2);
      }
      by_value (Some v) first = record {
        told = (whole_is_told t, tt);
        valued = (first, tt);
        apart = λ key.
            let a : AwaitedStretch = record { value = v; stretch = whole_of t } in
            let most = weight_most key a in
            let both = times_cons key a [] in
            omega (arith, most, both);
        all = λ region there meets some. event_of_region t boxes dim down events are region there meets;
        those = λ event there.
            let a : AwaitedStretch = record { value = v; stretch = whole_of t } in
            held_once event.span.region.first (a ∷ []) a (contains_here a []) (inside event there).1;
      }
