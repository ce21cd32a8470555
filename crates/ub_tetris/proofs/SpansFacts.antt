-- The regions of a tree beside the spans and events of a plan: which event is that of a region.
use Rattle.std.proofs.Common.{slice_get, ◌≡◌, ◌≤◌, ℕ, List, [], ◌∷◌, Bool, true, false, map, Contains, inl, inr, refl, sym, ap, ◌∙◌, subst}
use Rattle.std.proofs.lemmas.List.Elements.{All-contains}
use Rattle.std.proofs.lemmas.List.Sorted.{Contains-permutation, IsPermutation-sym}
use Rattle.ub_bigmin.specs.Box.{Corners}
use Rattle.ub_planning.specs.Visits as plan
use Rattle.ub_planning.specs.Visits.{AreEvents, Event, IsAlong, IsEventBefore, IsEventValue, Span, spans_up_to}
use Rattle.ub_query.proofs.Laws.{Rising, Rising-from_adjacent, Rising-map, contains_cases, contains_from_map, contains_here, contains_later, contains_map, contains_none}
use Rattle.ub_region.specs.Those.{AreThose}
use Rattle.ub_region.specs.Regions.{firsts_of}
use Rattle.ub_region.specs.Spans.{span_end}
use Rattle.ub_table.proofs.Laws.{before_trans, not_before_self}
use Rattle.ub_table.specs.Keys.{IsBefore}
use Rattle.ub_table.specs.Region.{RegionRows}
use Rattle.ub_table.specs.declared.row.Key.{Key}
use Rattle.ub_tetris.proofs.AlongFacts.{along_chain, up_to_both}
use Rattle.ub_tetris.proofs.ArrangeFacts.{rising_two}
use Rattle.ub_tetris.proofs.NearFacts.{first_of_all, value_there}
use Rattle.ub_tetris.proofs.ReachFacts.{event_span}
use Rattle.ub_tetris.proofs.SortedFacts.{keys_rise}
use Rattle.ub_tetris.specs.Awaited.{IsFirstValue}
use Rattle.ub_tree.proofs.Laws.{firsts_placed}
use Rattle.ub_tree.specs.Placed.{Placed, entry_of, regions_in}
use Rattle.ub_tree.specs.Spans.{Meets, Region, first_keys, regions_of}
use Rattle.ub_tree.specs.View.{IsSound, TreeView, regions, spans_of}
use Rattle.ub_zaddr.specs.Address.{last_address}

-- ---- those of a list

pub those_in : {E : Type 0} (P : E → Type 0) (xs those : List E) (x : E) → AreThose P xs those → Contains those x → Contains xs x × P x
those_in P [] those x are there = absurd (contains_none x (subst (λ (ys : List _). Contains ys x) are there))
those_in P (y ∷ ys) those x (inl are) there = elim (contains_cases y are.1 x (subst (λ (zs : List _). Contains zs x) are.2 there)) [
  | inl same ↦ (subst (λ (z : _). Contains (y ∷ ys) z) same (contains_here y ys), subst P same are.0)
  | inr later ↦ let rest = those_in P ys are.1 x are.3 later in (contains_later y ys x rest.0, rest.1)
]
those_in P (y ∷ ys) those x (inr are) there = let rest = those_in P ys those x are.1 there in (contains_later y ys x rest.0, rest.1)

pub those_have : {E : Type 0} (P : E → Type 0) (xs those : List E) (x : E) → AreThose P xs those → Contains xs x → P x → Contains those x
those_have P [] those x are there is = absurd (contains_none x there)
those_have P (y ∷ ys) those x (inl are) there is =
    subst (λ (zs : List _). Contains zs x) (sym are.2) (elim (contains_cases y ys x there) [
      | inl same ↦ subst (λ (z : _). Contains (y ∷ are.1) z) same (contains_here y are.1)
      | inr later ↦ contains_later y are.1 x (those_have P ys are.1 x are.3 later is)
    ])
those_have P (y ∷ ys) those x (inr are) there is = elim (contains_cases y ys x there) [
  | inl same ↦ absurd (are.0 (subst P (sym same) is))
  | inr later ↦ those_have P ys those x are.1 later is
]

-- ---- the regions of a tree, as it tells of them and as plans do

firsts_in_spans : (last : ℕ) (regions : List RegionRows) → map (λ (span : Span). span.region.first) (spans_up_to last regions) ≡ firsts_of regions
firsts_in_spans last [] = refl
firsts_in_spans last (region ∷ regions) = ap (λ (keys : List Key). region.first ∷ keys) (firsts_in_spans last regions)

-- one is the other
pub record IsOne (r : Region) (span : Span) : Type 0 where
  pub first : r.first ≡ span.region.first
  pub from : r.from ≡ span.from
  pub to : r.to ≡ span.to

pub span_for : (last : ℕ) (placed : List Placed) (r : Region) → Contains (regions_of last (map entry_of placed)) r → (span : Span) × Contains (spans_up_to last (regions_in placed)) span × IsOne r span
span_for last [] r there = absurd (contains_none r there)
span_for last (p ∷ placed) r there = elim (contains_cases _ (regions_of last (map entry_of placed)) r there) [
  | inl same ↦ (
    record { region = p.region; from = p.region.first.z; to = span_end last (firsts_of (regions_in placed)) },
    contains_here _ (spans_up_to last (regions_in placed)),
    subst (λ (x : Region). IsOne x (record { region = p.region; from = p.region.first.z; to = span_end last (firsts_of (regions_in placed)) })) same
        (record { first = refl; from = refl; to = ap (λ (keys : List Key). span_end last keys) (firsts_placed placed) }),
  )
  | inr later ↦ let (span, here, one) = span_for last placed r later in (span, contains_later _ (spans_up_to last (regions_in placed)) span here, one)
]

region_for : (last : ℕ) (placed : List Placed) (span : Span) → Contains (spans_up_to last (regions_in placed)) span → (r : Region) × Contains (regions_of last (map entry_of placed)) r × IsOne r span
region_for last [] span there = absurd (contains_none span there)
region_for last (p ∷ placed) span there = elim (contains_cases _ (spans_up_to last (regions_in placed)) span there) [
  | inl same ↦ (
    _,
    contains_here _ (regions_of last (map entry_of placed)),
    subst (λ (x : Span). IsOne (record { first = p.region.first; next = slice_get (first_keys (map entry_of placed)) 0; from = p.region.first.z; to = span_end last (first_keys (map entry_of placed)); page = p.page }) x) same
        (record { first = refl; from = refl; to = ap (λ (keys : List Key). span_end last keys) (firsts_placed placed) }),
  )
  | inr later ↦ let (r, here, one) = region_for last placed span later in (r, contains_later _ (regions_of last (map entry_of placed)) r here, one)
]

module _ (t : TreeView) (sound : IsSound t) where
  abbrev plan_spans : List Span
  plan_spans = plan.spans_of t.schema (regions t)

  spans_rise : Rising (λ (a b : Span). IsBefore a.region.first b.region.first) plan_spans
  spans_rise =
      Rising-map (λ a b. IsBefore a b) (λ (span : Span). span.region.first) plan_spans
      (subst (λ (keys : List Key). Rising (λ a b. IsBefore a b) keys) (sym (firsts_in_spans (last_address t.schema.dims) (regions t))) (keys_rise (firsts_of (regions t)) sound.regions_are.ascending))

  same_span : (a b : Span) → Contains plan_spans a → Contains plan_spans b → a.region.first ≡ b.region.first → a ≡ b
  same_span a b left right same = elim (rising_two (λ (a b : Span). IsBefore a.region.first b.region.first) plan_spans a b spans_rise left right) [
    | inl is ↦ is
    | inr (inl lt) ↦ absurd (not_before_self b.region.first (subst (λ (k : Key). IsBefore k b.region.first) same lt))
    | inr (inr lt) ↦ absurd (not_before_self b.region.first (subst (λ (k : Key). IsBefore b.region.first k) same lt))
  ]

pub meets_span : (boxes : List Corners) (r : Region) (span : Span) → IsOne r span → Meets boxes r → plan.Meets boxes span.from span.to
meets_span boxes r span one (z, holds, from, to) = (z, holds, subst (λ (n : ℕ). n ≤ z) one.from from, subst (λ (n : ℕ). z ≤ n) one.to to)

pub meets_region : (boxes : List Corners) (r : Region) (span : Span) → IsOne r span → plan.Meets boxes span.from span.to → Meets boxes r
meets_region boxes r span one (z, holds, from, to) = (z, holds, subst (λ (n : ℕ). n ≤ z) (sym one.from) from, subst (λ (n : ℕ). z ≤ n) (sym one.to) to)

-- ---- events

module _ (t : TreeView) (boxes : List Corners) (dim : ℕ) (down : Bool) (events : List Event) (are : AreEvents t.schema boxes dim down (regions t) events) where
  met_span : (event : Event) → Contains events event → Contains are.meeting event.span
  met_span event there =
      Contains-permutation (map (λ (e : Event). e.span) events) are.meeting event.span (IsPermutation-sym are.meeting (map (λ (e : Event). e.span) events) are.same)
      (contains_map (λ (e : Event). e.span) events event there)

  -- each event has a region of the tree
  pub region_of_event : (event : Event) → Contains events event → (r : Region) × Contains (spans_of t) r × IsOne r event.span
  region_of_event event there = region_for (last_address t.schema.dims) t.placed event.span (event_span t.schema boxes dim down (regions t) events event are there)

  pub event_meets : (event : Event) (r : Region) → Contains events event → IsOne r event.span → Meets boxes r
  event_meets event r there one =
      meets_region boxes r event.span one
      (those_in (λ (span : Span). plan.Meets boxes span.from span.to) (plan.spans_of t.schema (regions t)) are.meeting event.span are.meeting_are (met_span event there)).1

  pub event_first : (event : Event) (r : Region) → Contains events event → IsOne r event.span → IsFirstValue boxes dim down r event.value
  event_first event r there one = by_way down (All-contains (λ (e : Event). IsEventValue boxes dim down e.span e.value) events event are.values there)
    where
      by_way : (down : Bool) → IsEventValue boxes dim down event.span event.value → IsFirstValue boxes dim down r event.value
      by_way false is = rw (one.from, one.to) is
      by_way true is = rw (one.from, one.to) is

  -- each region that meets the boxes has an event
  pub event_of_region : (r : Region) → Contains (spans_of t) r → Meets boxes r → (event : Event) × Contains events event × (event.span.region.first ≡ r.first)
  event_of_region r there meets =
      let (span, is_span, one) = span_for (last_address t.schema.dims) t.placed r there in
      let met = those_have (λ (s : Span). plan.Meets boxes s.from s.to) (plan.spans_of t.schema (regions t)) are.meeting span are.meeting_are is_span (meets_span boxes r span one meets) in
      let (event, here, same) = contains_from_map (λ (e : Event). e.span) events span (Contains-permutation are.meeting (map (λ (e : Event). e.span) events) span are.same met) in
      (event, here, ap (λ (s : Span). s.region.first) same ∙ sym one.first)

  pub events_rise : Rising (IsEventBefore down) events
  events_rise = Rising-from_adjacent (IsEventBefore down) chain events are.ordered
    where
      chain : (a b c : Event) → IsEventBefore down a b → IsEventBefore down b c → IsEventBefore down a c
      chain a b c (inl g) (inl h) = inl (along_chain down a.value b.value c.value g h)
      chain a b c (inl g) (inr h) = inl (subst (λ (v : ℕ). IsAlong down a.value v) h.0 g)
      chain a b c (inr g) (inl h) = inl (subst (λ (v : ℕ). IsAlong down v c.value) (sym g.0) h)
      chain a b c (inr g) (inr h) = inr (g.0 ∙ h.0, before_trans a.span.region.first b.span.region.first c.span.region.first g.1 h.1)

  -- an event of which the first key is that of a region is that region's
  pub event_is : (sound : IsSound t) (event : Event) (r : Region) → Contains events event → Contains (spans_of t) r → event.span.region.first ≡ r.first → IsOne r event.span
  event_is sound event r there is_region same =
      let (span, is_span, one) = span_for (last_address t.schema.dims) t.placed r is_region in
      let alike : span ≡ event.span =
      same_span t sound span event.span is_span (event_span t.schema boxes dim down (regions t) events event are there) (sym one.first ∙ sym same) in
      subst (λ (s : Span). IsOne r s) alike one

-- two first values of a region are one
pub first_is_one : (boxes : List Corners) (dim : ℕ) (down : Bool) (r : Region) (v w : ℕ) → IsFirstValue boxes dim down r v → IsFirstValue boxes dim down r w → v ≡ w
first_is_one boxes dim down r v w one other =
    up_to_both down v w (first_of_all boxes dim down r v w one (value_there boxes dim down r w other)) (first_of_all boxes dim down r w v other (value_there boxes dim down r v one))
