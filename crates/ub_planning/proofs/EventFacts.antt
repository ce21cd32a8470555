-- The regions that meet some boxes can be put in the order in which a sweep comes to them, in one way.
use Rattle.std.proofs.Common.{◌≡◌, ℕ, Bool, true, false, List, [], ◌∷◌, map, Contains, IsPermutation, ◌⊎◌, inl, inr, refl, sym, ap, ◌∙◌, subst, arith}
use Rattle.std.proofs.lemmas.Bool.{cases_lt}
use Rattle.std.proofs.lemmas.List.Elements.{All-from_recursion, All-contains}
use Rattle.std.proofs.lemmas.List.Sorted.{Contains-permutation, IsPermutation-map, IsPermutation-sym}
use Rattle.std.specs.List.{AllByRecursion}
use Rattle.ub_bigmin.specs.Box.{Corners}
use Rattle.ub_planning.proofs.FoundFacts.{meeting_of}
use Rattle.ub_planning.proofs.ThoseFacts.{those_one, those_have, Rising-those}
use Rattle.ub_planning.proofs.ValueFacts.{event_value, one_value}
use Rattle.ub_planning.specs.Visits.{Span, Meets, Event, IsAlong, IsEventBefore, IsEventValue, AreEvents, spans_of, spans_up_to}
use Rattle.ub_query.proofs.Laws.{Rising, Rising-map, Rising-both, Rising-from_adjacent, Rising-one, all_permutation, an_arrangement, contains_map, contains_from_map}
use Rattle.ub_region.specs.Regions.{AreRegions, firsts_of}
use Rattle.ub_table.proofs.Laws.{before_trans, not_before_self}
use Rattle.ub_table.specs.Keys.{IsBefore, AreKeysAscending}
use Rattle.ub_table.specs.Region.{RegionRows}
use Rattle.ub_table.specs.declared.schema.Schema.{Schema}
use Rattle.ub_zaddr.specs.Address.{last_address}

-- ---- the order of events

along-never : (t : Bool) (a : ℕ) → ¬ (IsAlong t a a)
along-never false a h = omega arith
along-never true a h = omega arith

along-chain : (t : Bool) (a b c : ℕ) → IsAlong t a b → IsAlong t b c → IsAlong t a c
along-chain false a b c g h = omega arith
along-chain true a b c g h = omega arith

along-sides : (t : Bool) (a b : ℕ) → IsAlong t a b ⊎ ((a ≡ b) ⊎ IsAlong t b a)
along-sides false a b = elim (cases_lt a b) [
  | inl lt ↦ inl lt
  | inr ge ↦ elim (cases_lt b a) [
    | inl lt ↦ inr (inr lt)
    | inr le ↦ inr (inl (omega arith))
  ]
]
along-sides true a b = elim (cases_lt a b) [
  | inl lt ↦ inr (inr lt)
  | inr ge ↦ elim (cases_lt b a) [
    | inl lt ↦ inl lt
    | inr le ↦ inr (inl (omega arith))
  ]
]

events-never : (t : Bool) (a : Event) → ¬ (IsEventBefore t a a)
events-never t a (inl h) = along-never t a.value h
events-never t a (inr h) = not_before_self a.span.region.first h.1

pub events-chain : (t : Bool) (a b c : Event) → IsEventBefore t a b → IsEventBefore t b c → IsEventBefore t a c
events-chain t a b c (inl g) (inl h) = inl (along-chain t a.value b.value c.value g h)
events-chain t a b c (inl g) (inr h) = inl (subst (λ (v : ℕ). IsAlong t a.value v) h.0 g)
events-chain t a b c (inr g) (inl h) = inl (subst (λ (v : ℕ). IsAlong t v c.value) (sym g.0) h)
events-chain t a b c (inr g) (inr h) = inr (g.0 ∙ h.0, before_trans a.span.region.first b.span.region.first c.span.region.first g.1 h.1)

-- of two regions that stand one after the other one is before the other
events-sides : (t : Bool) (a b : Event) → IsBefore a.span.region.first b.span.region.first → IsEventBefore t a b ⊎ IsEventBefore t b a
events-sides t a b up = elim (along-sides t a.value b.value) [
  | inl h ↦ inl (inl h)
  | inr h ↦ elim h [
    | inl same ↦ inl (inr (same, up))
    | inr g ↦ inr (inl g)
  ]
]

-- ---- the regions that meet, each with its value

all_after : (last : ℕ) (first : Span) (regions : List RegionRows) → AreKeysAscending (first.region.first ∷ firsts_of regions)
    → AllByRecursion (λ (span : Span). IsBefore first.region.first span.region.first) (spans_up_to last regions)
all_after last first [] up = tt
all_after last first (region ∷ []) up = (up.0, tt)
all_after last first (region ∷ next ∷ regions) up =
    (up.0, all_after last first (next ∷ regions) (before_trans first.region.first region.first next.first up.0 up.1.0, up.1.1))

spans-rising : (last : ℕ) (regions : List RegionRows) → AreKeysAscending (firsts_of regions)
    → Rising (λ (a b : Span). IsBefore a.region.first b.region.first) (spans_up_to last regions)
spans-rising last [] up = tt
spans-rising last (region ∷ []) up = (tt, tt)
spans-rising last (region ∷ next ∷ regions) up =
    (all_after last (record { region = region; from = region.first.z; to = 0 }) (next ∷ regions) up, spans-rising last (next ∷ regions) up.1)

-- spans with their event values
record AreValued (boxes : List Corners) (dim : ℕ) (t : Bool) (spans : List Span) (events : List Event) : Type 0 where
  spans_are : map (λ event. event.span) events ≡ spans
  values : AllByRecursion (λ event. IsEventValue boxes dim t event.span event.value) events

valued : (boxes : List Corners) (dim : ℕ) (t : Bool) (spans : List Span) → AllByRecursion (λ (span : Span). Meets boxes span.from span.to) spans
    → (events : List Event) × AreValued boxes dim t spans events
valued boxes dim t [] all = ([], record { spans_are = refl; values = tt })
valued boxes dim t (span ∷ spans) all =
    let (v, is) = event_value boxes dim t span all.0 in
    let (events, are) = valued boxes dim t spans all.1 in (
      record { value = v; span = span } ∷ events,
      record { spans_are = ap (λ (ss : List Span). span ∷ ss) are.spans_are; values = (is, are.values) },
    )

pub events_of : (schema : Schema) (boxes : List Corners) (dim : ℕ) (t : Bool) (next : ℕ) (regions : List RegionRows) → AreRegions schema next regions
    → (events : List Event) × AreEvents schema boxes dim t regions events
events_of schema boxes dim t next regions are =
    let (meeting, those) = meeting_of schema boxes regions in
    let (events, with_values) = valued boxes dim t meeting (those_have (λ (span : Span). Meets boxes span.from span.to) (spans_of schema regions) meeting those) in
    let up : Rising (λ (a b : Span). IsBefore a.region.first b.region.first) meeting =
    Rising-those (λ (a b : Span). IsBefore a.region.first b.region.first) (λ (span : Span). Meets boxes span.from span.to) (spans_of schema regions) meeting those
    (spans-rising (last_address schema.dims) regions are.ascending) in
    let rising : Rising (λ (a b : Event). IsBefore a.span.region.first b.span.region.first) events =
    Rising-map (λ (a b : Span). IsBefore a.region.first b.region.first) (λ (event : Event). event.span) events
    (subst (λ (ss : List Span). Rising (λ (a b : Span). IsBefore a.region.first b.region.first) ss) (sym with_values.spans_are) up) in
    let (sorted, order) = an_arrangement (IsEventBefore t) (events-chain t) events
    (Rising-both (λ (a b : Event). IsBefore a.span.region.first b.span.region.first) (λ a b. IsEventBefore t a b ⊎ IsEventBefore t b a)
    (λ (event : Event). IsEventValue boxes dim t event.span event.value) (λ a b p q h. events-sides t a b h) events with_values.values rising) in (
      sorted,
      record {
        meeting = meeting;
        meeting_are = those;
        same = subst (λ (ss : List Span). IsPermutation ss (map (λ event. event.span) sorted)) with_values.spans_are (IsPermutation-map (λ (event : Event). event.span) events sorted order.same);
        values = All-from_recursion (λ (event : Event). IsEventValue boxes dim t event.span event.value) sorted
            (all_permutation (λ (event : Event). IsEventValue boxes dim t event.span event.value) events sorted order.same with_values.values);
        ordered = order.ordered;
      },
    )

-- ---- one order

same_event : (a b : Event) → a.value ≡ b.value → a.span ≡ b.span → a ≡ b
same_event a b values spans =
    ap (λ (v : ℕ). record { value = v; span = a.span }) values ∙ ap (λ (s : Span). record { value = b.value; span = s }) spans

-- an event of one order is one of the other
event_there : (schema : Schema) (boxes : List Corners) (dim : ℕ) (t : Bool) (regions : List RegionRows) (first second : List Event)
    → AreEvents schema boxes dim t regions first → AreEvents schema boxes dim t regions second → (event : Event) → Contains first event → Contains second event
event_there schema boxes dim t regions first second a b event here =
    let meets : a.meeting ≡ b.meeting = those_one (λ (span : Span). Meets boxes span.from span.to) (spans_of schema regions) a.meeting b.meeting a.meeting_are b.meeting_are in
    let firsts = map (λ (event : Event). event.span) first in
    let seconds = map (λ (event : Event). event.span) second in
    let among : Contains a.meeting event.span =
    Contains-permutation firsts a.meeting event.span (IsPermutation-sym a.meeting firsts a.same) (contains_map (λ (event : Event). event.span) first event here) in
    let there : Contains seconds event.span =
    Contains-permutation b.meeting seconds event.span b.same (subst (λ (ss : List Span). Contains ss event.span) meets among) in
    let (other, is, same) = contains_from_map (λ (event : Event). event.span) second event.span there in
    let mine = All-contains (λ (event : Event). IsEventValue boxes dim t event.span event.value) first event a.values here in
    let its = All-contains (λ (event : Event). IsEventValue boxes dim t event.span event.value) second other b.values is in
    let value : other.value ≡ event.value =
    one_value boxes dim t event.span other.value event.value (subst (λ (span : Span). IsEventValue boxes dim t span other.value) same its) mine in
    subst (λ (e : Event). Contains second e) (same_event other event value same) is

pub events_one : (schema : Schema) (boxes : List Corners) (dim : ℕ) (t : Bool) (regions : List RegionRows) (first second : List Event)
    → AreEvents schema boxes dim t regions first → AreEvents schema boxes dim t regions second → first ≡ second
events_one schema boxes dim t regions first second a b =
    Rising-one (IsEventBefore t) (events-never t) (events-chain t) first second
    (Rising-from_adjacent (IsEventBefore t) (events-chain t) first a.ordered)
    (Rising-from_adjacent (IsEventBefore t) (events-chain t) second b.ordered)
    (event_there schema boxes dim t regions first second a b)
    (event_there schema boxes dim t regions second first b a)
