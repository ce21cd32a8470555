-- What the laws of stretches say of stretches that are awaited.
use Rattle.std.proofs.Common.{◌≡◌, ◌≤◌, ◌<◌, ◌+◌, ◌⊎◌, ℕ, zero, suc, true, List, [], ◌∷◌, Contains, length, inl, inr, refl, sym, ap, subst, get_or, slice_get, Some, arith}
use Rattle.std.proofs.lemmas.Bool.{cases_Bool, cases_lt}
use Rattle.std.specs.List.{AllByRecursion, flat_map}
use Rattle.ub_bigmin.specs.Box.{Corners, HoldsAny}
use Rattle.ub_query.proofs.Laws.{Rising, Rising-from_pairs, Rising-map, all_at, contains_cases, contains_filter, contains_from_filter, contains_from_map, contains_here, contains_later, contains_map, contains_none}
use Rattle.ub_region.specs.Those.{AreThose}
use Rattle.ub_table.proofs.Laws.{not_before_self}
use Rattle.ub_table.specs.Keys.{IsBefore}
use Rattle.ub_table.specs.declared.row.Key.{Key}
use Rattle.ub_planning.proofs.Laws.{meeting_of}
use Rattle.ub_planning.specs.Visits as plan
use Rattle.ub_planning.specs.Visits.{Span}
use Rattle.ub_tetris.proofs.ArrangeFacts.{from_part}
use Rattle.ub_tetris.proofs.SpansFacts.{meets_region, meets_span, span_for, those_have, those_in}
use Rattle.ub_tetris.proofs.TimesFacts.{held_by, held_once, times_cons, weight, weight_none, weight_one}
use Rattle.ub_tetris.specs.Awaited.{AwaitedStretch, stretches_of, times_held}
use Rattle.ub_tree.proofs.Laws.{all_are_within, held_key, key_held, lowest_hold_one, parts_are_below, parts_are_told, parts_ascend, parts_cover, parts_hold, parts_lie_in, parts_lie_within, stretch_is_its_regions, stretches_begin}
pub use Rattle.ub_tree.proofs.Laws.{lowest_are_regions, stretch_kept, traced_parts, whole_is_told}
use Rattle.ub_tree.specs.Laws.{LiesIn}
use Rattle.ub_tree.specs.Spans.{Meets, Region}
use Rattle.ub_tree.specs.Stretches.{ArePartsOf, IsStretchOf, MeetsAny, Stretch, holds_key, whole_of, within}
use Rattle.ub_tree.specs.View.{IsSound, TreeView, regions, spans_of}
use Rattle.ub_zaddr.specs.Address.{last_address}

-- ---- over any tree

pub parts_told : (t : TreeView) (boxes : List Corners) (stretch : Stretch) (parts : List Stretch) (part : Stretch) → IsStretchOf t stretch → ArePartsOf t boxes stretch parts → Contains parts part
    → IsStretchOf t part
parts_told t boxes stretch parts part told are there = (all_at (λ (p : Stretch). IsStretchOf t p × (stretch.level ≡ p.level + 1) × MeetsAny boxes p) parts part (parts_are_told t boxes stretch parts told are).0 there).0

-- it holds its first key
pub begins_held : (t : TreeView) (stretch : Stretch) → IsStretchOf t stretch → holds_key stretch stretch.span.first ≡ true
begins_held t stretch told = held_key stretch stretch.span.first (stretches_begin t stretch told).0

pub part_lies : (t : TreeView) (boxes : List Corners) (stretch : Stretch) (parts : List Stretch) (part : Stretch) → IsStretchOf t stretch → ArePartsOf t boxes stretch parts → Contains parts part
    → (z : ℕ) → LiesIn part.span z → LiesIn stretch.span z
part_lies t boxes stretch parts part told are there =
    all_at (λ (p : Stretch). (z : ℕ) → LiesIn p.span z → LiesIn stretch.span z) parts part (parts_lie_in t boxes stretch parts told are) there

pub part_begins : (t : TreeView) (boxes : List Corners) (stretch : Stretch) (parts : List Stretch) (part : Stretch) → IsStretchOf t stretch → ArePartsOf t boxes stretch parts → Contains parts part
    → ¬ (IsBefore part.span.first stretch.span.first)
part_begins t boxes stretch parts part told are there =
    (all_at _ parts part (parts_lie_within t boxes stretch parts are) there part.span.first (stretches_begin t part (parts_told t boxes stretch parts part told are there)).0).from

-- a stretch holds no key before its first one
pub held_from : (stretch : Stretch) (key : Key) → holds_key stretch key ≡ true → ¬ (IsBefore key stretch.span.first)
held_from stretch key holds = (key_held stretch key holds).from

part_holds : (t : TreeView) (boxes : List Corners) (stretch : Stretch) (parts : List Stretch) (part : Stretch) → ArePartsOf t boxes stretch parts → Contains parts part
    → (key : Key) → holds_key part key ≡ true → holds_key stretch key ≡ true
part_holds t boxes stretch parts part are there key holds =
    held_key stretch key (all_at _ parts part (parts_lie_within t boxes stretch parts are) there key (key_held part key holds))

-- levels, and how many there are
pub parts_below : (t : TreeView) (boxes : List Corners) (stretch : Stretch) (queued : List AwaitedStretch) → 1 ≤ stretch.level → ArePartsOf t boxes stretch (stretches_of queued)
    → AllByRecursion (λ a. stretch.level ≡ a.stretch.level + 1) queued × (length queued ≤ 170)
parts_below t boxes stretch queued some are =
    let (all, few) = parts_are_below t boxes stretch (stretches_of queued) some are in
    (levels queued all, shorter queued few)
  where
    levels : (queued : List AwaitedStretch) → AllByRecursion (λ (p : Stretch). stretch.level ≡ p.level + 1) (stretches_of queued) → AllByRecursion (λ (a : AwaitedStretch). stretch.level ≡ a.stretch.level + 1) queued
    levels [] all = tt
    levels (a ∷ queued) all = (all.0, levels queued all.1)

    long : (queued : List AwaitedStretch) → length (stretches_of queued) ≡ length queued
    long [] = refl
    long (a ∷ queued) = ap suc (long queued)

    shorter : (queued : List AwaitedStretch) → length (stretches_of queued) ≤ 170 → length queued ≤ 170
    shorter queued few = subst (λ (n : ℕ). n ≤ 170) (long queued) few

-- ---- how many parts hold a key

-- no two hold one key
few_held : (key : Key) (xs : List AwaitedStretch) → Rising (λ a b. holds_key a.stretch key ≡ true → ¬ (holds_key b.stretch key ≡ true)) xs → times_held key xs ≤ 1
few_held key [] up = omega arith
few_held key (x ∷ xs) up = elim (cases_Bool (holds_key x.stretch key)) [
  | inl holds ↦ elim (cases_lt 0 (times_held key xs)) [
    | inl some ↦
        let (a, there, also) = held_by key xs some in
        absurd (all_at (λ b. holds_key x.stretch key ≡ true → ¬ (holds_key b.stretch key ≡ true)) xs a up.0 there holds also)
    | inr none ↦
        let one = weight_one key x holds in
        let both = times_cons key x xs in
        omega (arith, none, one, both)
  ]
  | inr not ↦
      let none = weight_none key x not in
      let both = times_cons key x xs in
      let few = few_held key xs up.1 in
      omega (arith, none, both, few)
]

at_index : {E : Type 0} (xs : List E) (i : ℕ) (d : E) → i < length xs → slice_get xs i ≡ Some (get_or xs i d)
at_index [] i d inside = absurd (omega (arith, inside))
at_index (x ∷ xs) zero d inside = refl
at_index (x ∷ xs) (suc i) d inside = at_index xs i d (omega (arith, inside))

pub parts_hold_few : (t : TreeView) (boxes : List Corners) (next : AwaitedStretch) (queued : List AwaitedStretch) → IsStretchOf t next.stretch → ArePartsOf t boxes next.stretch (stretches_of queued) → (key : Key)
    → times_held key queued ≤ weight key next
parts_hold_few t boxes next queued told are key = elim (cases_lt 0 (times_held key queued)) [
  | inl some ↦
      let (a, there, holds) = held_by key queued some in
      let one = weight_one key next (part_holds t boxes next.stretch (stretches_of queued) a.stretch are (contains_map (λ (b : AwaitedStretch). b.stretch) queued a there) key holds) in
      let few = few_held key queued (Rising-map (λ (p q : Stretch). holds_key p key ≡ true → ¬ (holds_key q key ≡ true)) (λ (b : AwaitedStretch). b.stretch) queued apart) in
      omega (arith, one, few)
  | inr none ↦ omega (arith, none)
]
  where
    apart : Rising (λ (p q : Stretch). holds_key p key ≡ true → ¬ (holds_key q key ≡ true)) (stretches_of queued)
    apart =
        Rising-from_pairs (λ (p q : Stretch). holds_key p key ≡ true → ¬ (holds_key q key ≡ true)) (stretches_of queued)
        (λ i j d lt inside first second.
        not_before_self key (parts_ascend t boxes next.stretch (stretches_of queued) i j (get_or (stretches_of queued) i d) (get_or (stretches_of queued) j d) are lt
        (at_index (stretches_of queued) i d (omega (arith, lt, inside))) (at_index (stretches_of queued) j d inside) key key
        (key_held (get_or (stretches_of queued) i d) key first) (key_held (get_or (stretches_of queued) j d) key second)))

pub parts_hold_all : (t : TreeView) (boxes : List Corners) (next : AwaitedStretch) (queued : List AwaitedStretch) → IsStretchOf t next.stretch → ArePartsOf t boxes next.stretch (stretches_of queued) → (key : Key)
    → HoldsAny boxes key.z → key.z ≤ (whole_of t).span.to → weight key next ≤ times_held key queued
parts_hold_all t boxes next queued told are key held inside = elim (cases_Bool (holds_key next.stretch key)) [
  | inl holds ↦
      let (part, there, here) = parts_hold t boxes next.stretch (stretches_of queued) key told are held inside (key_held next.stretch key holds) in
      let (a, is, same) = contains_from_map (λ (b : AwaitedStretch). b.stretch) queued part there in
      let some = held_once key queued a is (subst (λ (p : Stretch). holds_key p key ≡ true) (sym same) (held_key part key here)) in
      let one = weight_one key next holds in
      omega (arith, some, one)
  | inr not ↦ let none = weight_none key next not in omega (arith, none)
]

-- ---- over a sound tree

in_within : (stretch : Stretch) (regions : List Region) (r : Region) → Contains regions r → holds_key stretch r.first ≡ true → Contains (within stretch regions) r
in_within stretch regions r there holds = contains_filter (λ (region : Region). holds_key stretch region.first) regions r there holds

pub all_inside : (t : TreeView) (r : Region) → IsSound t → Contains (spans_of t) r → holds_key (whole_of t) r.first ≡ true
all_inside t r sound there =
    (contains_from_filter (λ (region : Region). holds_key (whole_of t) region.first) (spans_of t) r
    (subst (λ (rs : List Region). Contains rs r) (sym (all_are_within t sound)) there)).1

-- a region is within a stretch of level 0 where it is that one
pub lowest_is : (t : TreeView) (stretch : Stretch) (r : Region) → IsSound t → IsStretchOf t stretch → stretch.level ≡ 0 → Contains (spans_of t) r → holds_key stretch r.first ≡ true → r ≡ stretch.span
lowest_is t stretch r sound told lowest there holds =
    elim (contains_cases stretch.span [] r (subst (λ (rs : List Region). Contains rs r) (lowest_hold_one t stretch sound told lowest) (in_within stretch (spans_of t) r there holds))) [
      | inl same ↦ sym same
      | inr none ↦ absurd (contains_none r none)
    ]

pub lowest_there : (t : TreeView) (stretch : Stretch) → IsSound t → IsStretchOf t stretch → stretch.level ≡ 0 → Contains (spans_of t) stretch.span
lowest_there t stretch sound told lowest =
    (contains_from_filter (λ (region : Region). holds_key stretch region.first) (spans_of t) stretch.span
    (subst (λ (rs : List Region). Contains rs stretch.span) (sym (lowest_hold_one t stretch sound told lowest)) (contains_here stretch.span []))).0

-- the span of a region within a stretch lies in that of the stretch
pub region_lies : (t : TreeView) (stretch : Stretch) (r : Region) → IsSound t → IsStretchOf t stretch → Contains (spans_of t) r → holds_key stretch r.first ≡ true → (z : ℕ) → LiesIn r z → LiesIn stretch.span z
region_lies t stretch r sound told there holds z lies = (stretch_is_its_regions t stretch z sound told).1 (r, in_within stretch (spans_of t) r there holds, lies)

-- an address of a stretch lies in a region within it
pub region_of_address : (t : TreeView) (stretch : Stretch) (z : ℕ) → IsSound t → IsStretchOf t stretch → LiesIn stretch.span z
    → (r : Region) × Contains (spans_of t) r × (holds_key stretch r.first ≡ true) × LiesIn r z
region_of_address t stretch z sound told lies =
    let (r, there, here) = (stretch_is_its_regions t stretch z sound told).0 lies in
    let (among, holds) = contains_from_filter (λ (region : Region). holds_key stretch region.first) (spans_of t) r there in
    (r, among, holds, here)

decided : {E : Type 0} (P : E → Type 0) (xs those : List E) (x : E) → AreThose P xs those → Contains xs x → P x ⊎ (¬ (P x))
decided P [] those x are there = absurd (contains_none x there)
decided P (y ∷ ys) those x (inl are) there = elim (contains_cases y ys x there) [
  | inl same ↦ inl (subst P same are.0)
  | inr later ↦ decided P ys are.1 x are.3 later
]
decided P (y ∷ ys) those x (inr are) there = elim (contains_cases y ys x there) [
  | inl same ↦ inr (λ is. are.0 (subst P (sym same) is))
  | inr later ↦ decided P ys those x are.1 later
]

-- a region of a tree meets the boxes, or it doesn't
meets_or_not : (t : TreeView) (boxes : List Corners) (r : Region) → Contains (spans_of t) r → Meets boxes r ⊎ (¬ (Meets boxes r))
meets_or_not t boxes r there =
    let (meeting, those) = meeting_of t.schema boxes (regions t) in
    let (span, is_span, one) = span_for (last_address t.schema.dims) t.placed r there in
    elim (decided (λ (s : Span). plan.Meets boxes s.from s.to) (plan.spans_of t.schema (regions t)) meeting span those is_span) [
      | inl meets ↦ inl (meets_region boxes r span one meets)
      | inr never ↦ inr (λ (meets : Meets boxes r). never (meets_span boxes r span one meets))
    ]

those_of : (t : TreeView) (boxes : List Corners) (xs : List Region) → ((r : Region) → Contains xs r → Contains (spans_of t) r) → (met : List Region) × AreThose (Meets boxes) xs met
those_of t boxes [] among = ([], refl)
those_of t boxes (x ∷ xs) among =
    let (met, are) = those_of t boxes xs (λ r there. among r (contains_later x xs r there)) in
    elim (meets_or_not t boxes x (among x (contains_here x xs))) [
      | inl meets ↦ (x ∷ met, inl (meets, met, refl, are))
      | inr never ↦ (met, inr (never, are))
    ]

-- one that meets the boxes is within some part
pub some_part : (t : TreeView) (boxes : List Corners) (stretch : Stretch) (parts : List Stretch) (r : Region) → IsSound t → IsStretchOf t stretch → ArePartsOf t boxes stretch parts
    → Contains (spans_of t) r → holds_key stretch r.first ≡ true → Meets boxes r → (part : Stretch) × Contains parts part × (holds_key part r.first ≡ true)
some_part t boxes stretch parts r sound told are there holds meets =
    let own = λ (x : Region) (c : Contains (within stretch (spans_of t)) x). (contains_from_filter (λ (region : Region). holds_key stretch region.first) (spans_of t) x c).0 in
    let (met, those) = those_of t boxes (within stretch (spans_of t)) own in
    let in_met = those_have (Meets boxes) (within stretch (spans_of t)) met r those (in_within stretch (spans_of t) r there holds) meets in
    let in_parts = (those_in (Meets boxes) (flat_map (λ (part : Stretch). within part (spans_of t)) parts) met r ((parts_cover t boxes stretch parts met sound told are).0 those) in_met).0 in
    let (part, is, here) = from_part (λ (part : Stretch). within part (spans_of t)) parts r in_parts in
    (part, is, (contains_from_filter (λ (region : Region). holds_key part region.first) (spans_of t) r here).1)
