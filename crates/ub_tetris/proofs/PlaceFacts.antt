-- Stretches that came in the place of others, over any tree: one step after the other.
use Rattle.std.proofs.Common.{◌≡◌, ◌≤◌, ◌+◌, ◌⊎◌, ◌∙◌, ℕ, Bool, List, [], ◌∷◌, ◌++◌, Contains, IsPermutation, inl, inr, refl, sym, ap, subst, arith, append_assoc}
use Rattle.std.proofs.lemmas.List.{map-append}
use Rattle.std.proofs.lemmas.List.Elements.{Contains-append_cases, Contains-append_left, Contains-append_right}
use Rattle.std.proofs.lemmas.List.Sorted.{Contains-permutation, IsPermutation-sym}
use Rattle.std.specs.List.{AllByRecursion}
use Rattle.ub_bigmin.specs.Box.{Corners}
use Rattle.ub_query.proofs.Laws.{all_at, all_from_contains, all_permutation, contains_here, contains_later, contains_map, contains_none}
use Rattle.ub_table.specs.declared.row.Key.{Key}
use Rattle.ub_tetris.proofs.NearFacts.{never_before, not_before_then, value_within}
use Rattle.ub_tetris.proofs.StretchFacts.{part_begins, part_lies, parts_hold_all, parts_hold_few, parts_told}
use Rattle.ub_tetris.proofs.TimesFacts.{times_append, times_cons, times_same, weight}
use Rattle.ub_tetris.specs.Awaited.{AreInOrder, AreInPlaceOf, AreStretchesOf, AreValued, AwaitedRegion, AwaitedStretch, ComesDown, HaveDimension, IsAwaitedBefore, IsBelow, IsFirstValue, as_lowest, lowest, stretches_of, times_held}
use Rattle.ub_tree.specs.Stretches.{ArePartsOf, IsStretchOf, Stretch}
use Rattle.ub_tree.specs.View.{TreeView}

-- ---- parts of parts

told_down : (t : TreeView) (boxes : List Corners) (way : List Stretch) (from to : Stretch) → IsStretchOf t from → ComesDown t boxes from way to → IsStretchOf t to
told_down t boxes [] from to told same = subst (IsStretchOf t) (sym same) told
told_down t boxes (part ∷ way) from to told (parts, are, there, comes) =
    told_down t boxes way part to (parts_told t boxes from parts part told are there) comes

down_then : (t : TreeView) (boxes : List Corners) (way more : List Stretch) (from mid to : Stretch) → ComesDown t boxes from way mid → ComesDown t boxes mid more to → ComesDown t boxes from (way ++ more) to
down_then t boxes [] more from mid to same comes = subst (λ (s : Stretch). ComesDown t boxes s more to) same comes
down_then t boxes (part ∷ way) more from mid to (parts, are, there, comes) then = (parts, are, there, down_then t boxes way more part mid to comes then)

pub below_own : (t : TreeView) (boxes : List Corners) (xs : List AwaitedStretch) (a : AwaitedStretch) → Contains xs a → IsBelow t boxes xs a.stretch
below_own t boxes xs a there = (a, there, [], refl)

pub below_told : (t : TreeView) (boxes : List Corners) (xs : List AwaitedStretch) (s : Stretch) → AreStretchesOf t xs → IsBelow t boxes xs s → IsStretchOf t s
below_told t boxes xs s told (a, there, way, comes) = told_down t boxes way a.stretch s (all_at (λ (b : AwaitedStretch). IsStretchOf t b.stretch) xs a told there) comes

pub below_more : (t : TreeView) (boxes : List Corners) (xs ys : List AwaitedStretch) (s : Stretch) → ((a : AwaitedStretch) → Contains ys a → IsBelow t boxes xs a.stretch) → IsBelow t boxes ys s → IsBelow t boxes xs s
below_more t boxes xs ys s each (a, there, way, comes) = let (b, here, first, down) = each a there in (b, here, first ++ way, down_then t boxes first way b.stretch a.stretch s down comes)

pub all_told : (t : TreeView) (boxes : List Corners) (xs ys : List AwaitedStretch) → AreStretchesOf t xs → ((a : AwaitedStretch) → Contains ys a → IsBelow t boxes xs a.stretch) → AreStretchesOf t ys
all_told t boxes xs ys told each = all_from_contains (λ (a : AwaitedStretch). IsStretchOf t a.stretch) ys (λ a there. below_told t boxes xs a.stretch told (each a there))

all_second : {E : Type 0} (P : E → Type 0) (xs ys : List E) → AllByRecursion P (xs ++ ys) → AllByRecursion P ys
all_second P [] ys all = all
all_second P (x ∷ xs) ys all = all_second P xs ys all.1

-- ---- one step after the other

module _ (t : TreeView) (boxes : List Corners) (dim : ℕ) (down : Bool) where
  pub place_none : (xs : List AwaitedStretch) → AreInPlaceOf t boxes dim down xs xs
  place_none xs = record {
    below = λ a there. below_own t boxes xs a there;
    fewer = λ told key. omega arith;
    all = λ told dims key held within. omega arith;
    valued = λ valued. valued;
    later = λ told valued a there. (a, there, never_before down a);
  }

  -- in whatever order those stood that were there first
  pub place_from : (xs ys zs : List AwaitedStretch) → IsPermutation xs ys → AreInPlaceOf t boxes dim down ys zs → AreInPlaceOf t boxes dim down xs zs
  place_from xs ys zs same place = record {
    below = λ a there. let (b, here, way, comes) = place.below a there in (b, back b here, way, comes);
    fewer = λ told key.
        let times = times_same key xs ys same in
        let few = place.fewer (turned told) key in
        omega (arith, times, few);
    all = λ told dims key held within.
        let times = times_same key xs ys same in
        let many = place.all (turned told) dims key held within in
        omega (arith, times, many);
    valued = λ valued. place.valued (all_permutation (λ (a : AwaitedStretch). IsFirstValue boxes dim down a.stretch.span a.value) xs ys same valued);
    later = λ told valued a there.
        let (b, here, none) = place.later (turned told) (all_permutation (λ (a : AwaitedStretch). IsFirstValue boxes dim down a.stretch.span a.value) xs ys same valued) a there in
        (b, back b here, none);
  }
    where
      back : (b : AwaitedStretch) → Contains ys b → Contains xs b
      back b here = Contains-permutation ys xs b (IsPermutation-sym xs ys same) here

      turned : AreStretchesOf t xs → AreStretchesOf t ys
      turned told = all_permutation (λ (a : AwaitedStretch). IsStretchOf t a.stretch) xs ys same told

  pub place_to : (xs ys zs : List AwaitedStretch) → ys ≡ zs → AreInPlaceOf t boxes dim down xs ys → AreInPlaceOf t boxes dim down xs zs
  place_to xs ys zs same place = subst (λ (those : List AwaitedStretch). AreInPlaceOf t boxes dim down xs those) same place

  -- some of them stay, and others come in the place of the rest
  pub place_then : (before xs mid ys left : List AwaitedStretch) → AreInPlaceOf t boxes dim down before (xs ++ mid) → AreInPlaceOf t boxes dim down mid (ys ++ left)
      → AreInPlaceOf t boxes dim down before ((xs ++ ys) ++ left)
  place_then before xs mid ys left first second =
      subst (λ (those : List AwaitedStretch). AreInPlaceOf t boxes dim down before those) (sym (append_assoc xs ys left)) (record {
        below = λ a there. elim (Contains-append_cases xs (ys ++ left) a there) [
          | inl stays ↦ first.below a (Contains-append_left xs mid a stays)
          | inr comes ↦ below_more t boxes before mid a.stretch (λ b here. first.below b (Contains-append_right xs mid b here)) (second.below a comes)
        ];
        fewer = λ told key.
            let one = first.fewer told key in
            let two = second.fewer (mid_told told) key in
            let left_parts = times_append key xs mid in
            let right_parts = times_append key xs (ys ++ left) in
            omega (arith, one, two, left_parts, right_parts);
        all = λ told dims key held within.
            let one = first.all told dims key held within in
            let two = second.all (mid_told told) dims key held within in
            let left_parts = times_append key xs mid in
            let right_parts = times_append key xs (ys ++ left) in
            omega (arith, one, two, left_parts, right_parts);
        valued = λ valued. all_valued (first.valued valued);
        later = λ told valued a there. elim (Contains-append_cases xs (ys ++ left) a there) [
          | inl stays ↦ first.later told valued a (Contains-append_left xs mid a stays)
          | inr comes ↦
              let (m, here, none) = second.later (mid_told told) (all_second (λ (b : AwaitedStretch). IsFirstValue boxes dim down b.stretch.span b.value) xs mid (first.valued valued)) a comes in
              let (b, is, never) = first.later told valued m (Contains-append_right xs mid m here) in
              (b, is, not_before_then down a m b none never)
        ];
      })
    where
      mid_told : AreStretchesOf t before → AreStretchesOf t mid
      mid_told told = all_told t boxes before mid told (λ b here. first.below b (Contains-append_right xs mid b here))

      all_valued : AreValued boxes dim down (xs ++ mid) → AreValued boxes dim down (xs ++ (ys ++ left))
      all_valued all =
          all_from_contains (λ (a : AwaitedStretch). IsFirstValue boxes dim down a.stretch.span a.value) (xs ++ (ys ++ left))
          (λ a there. elim (Contains-append_cases xs (ys ++ left) a there) [
            | inl stays ↦ all_at (λ (b : AwaitedStretch). IsFirstValue boxes dim down b.stretch.span b.value) (xs ++ mid) a all (Contains-append_left xs mid a stays)
            | inr comes ↦ all_at (λ (b : AwaitedStretch). IsFirstValue boxes dim down b.stretch.span b.value) (ys ++ left) a
                (second.valued (all_second (λ (b : AwaitedStretch). IsFirstValue boxes dim down b.stretch.span b.value) xs mid all)) comes
          ])

  -- ---- a stretch is opened

  module _ (next : AwaitedStretch) (awaited queued now : List AwaitedStretch) (same : IsPermutation (awaited ++ queued) now) (valued : AreValued boxes dim down queued)
      (parts : ArePartsOf t boxes next.stretch (stretches_of queued) ⊎ ((queued ≡ []) × ¬ (HaveDimension dim boxes))) where
    among : (a : AwaitedStretch) → Contains now a → Contains awaited a ⊎ Contains queued a
    among a there = Contains-append_cases awaited queued a (Contains-permutation now (awaited ++ queued) a (IsPermutation-sym (awaited ++ queued) now same) there)

    times_now : (key : Key) → times_held key now ≡ times_held key awaited + times_held key queued
    times_now key = sym (times_same key (awaited ++ queued) now same) ∙ times_append key awaited queued

    none_queued : (key : Key) → queued ≡ [] → times_held key queued ≡ 0
    none_queued key none = ap (times_held key) none

    few_queued : IsStretchOf t next.stretch → (key : Key) → times_held key queued ≤ weight key next
    few_queued told key = elim parts [
      | inl are ↦ parts_hold_few t boxes next queued told are key
      | inr none ↦ let zero_held = none_queued key none.0 in omega (arith, zero_held)
    ]

    part_of : (a : AwaitedStretch) → Contains queued a → ArePartsOf t boxes next.stretch (stretches_of queued)
    part_of a there = elim parts [
      | inl are ↦ are
      | inr none ↦ absurd (contains_none a (subst (λ (those : List AwaitedStretch). Contains those a) none.0 there))
    ]

    not_before_whole : IsStretchOf t next.stretch → IsFirstValue boxes dim down next.stretch.span next.value → (a : AwaitedStretch) → Contains queued a → ¬ (IsAwaitedBefore down a next)
    not_before_whole told first a there (inl along) =
        value_within boxes dim down a.stretch.span next.stretch.span next.value a.value first
        (all_at (λ (b : AwaitedStretch). IsFirstValue boxes dim down b.stretch.span b.value) queued a valued there)
        (part_lies t boxes next.stretch (stretches_of queued) a.stretch told (part_of a there) (contains_map (λ (b : AwaitedStretch). b.stretch) queued a there)) along
    not_before_whole told first a there (inr before) =
        part_begins t boxes next.stretch (stretches_of queued) a.stretch told (part_of a there) (contains_map (λ (b : AwaitedStretch). b.stretch) queued a there) before.1

    pub place_opened : AreInPlaceOf t boxes dim down (next ∷ awaited) now
    place_opened = record {
      below = λ a there. elim (among a there) [
        | inl stays ↦ below_own t boxes (next ∷ awaited) a (contains_later next awaited a stays)
        | inr comes ↦ (next, contains_here next awaited, a.stretch ∷ [], (stretches_of queued, part_of a comes, contains_map (λ (b : AwaitedStretch). b.stretch) queued a comes, refl))
      ];
      fewer = λ told key.
          let few = few_queued told.0 key in
          let after = times_now key in
          let before = times_cons key next awaited in
          omega (arith, few, after, before);
      all = λ told dims key held within.
          let after = times_now key in
          let before = times_cons key next awaited in
          let many : weight key next ≤ times_held key queued = elim parts [
            | inl are ↦ parts_hold_all t boxes next queued told.0 are key held within
            | inr none ↦ absurd (none.1 dims)
          ] in
          omega (arith, after, before, many);
      valued = λ was. all_from_contains (λ (a : AwaitedStretch). IsFirstValue boxes dim down a.stretch.span a.value) now
          (λ a there. elim (among a there) [
            | inl stays ↦ all_at (λ (b : AwaitedStretch). IsFirstValue boxes dim down b.stretch.span b.value) awaited a was.1 stays
            | inr comes ↦ all_at (λ (b : AwaitedStretch). IsFirstValue boxes dim down b.stretch.span b.value) queued a valued comes
          ]);
      later = λ told was a there. elim (among a there) [
        | inl stays ↦ (a, contains_later next awaited a stays, never_before down a)
        | inr comes ↦ (next, contains_here next awaited, not_before_whole told.0 was.0 a comes)
      ];
    }

-- ---- the order of the regions come to

-- those that come after others
pub order_then : (down : Bool) (xs ys : List AwaitedRegion) (mid left : List AwaitedStretch) → AreInOrder down xs mid → AreInOrder down ys left
    → ((a : AwaitedStretch) → Contains (lowest ys ++ left) a → (b : AwaitedStretch) × Contains mid b × ¬ (IsAwaitedBefore down a b)) → AreInOrder down (xs ++ ys) left
order_then down [] ys mid left first second later = second
order_then down (x ∷ xs) ys mid left first second later = (
  all_from_contains (λ (b : AwaitedStretch). ¬ (IsAwaitedBefore down b (as_lowest x))) (lowest (xs ++ ys) ++ left) after,
  order_then down xs ys mid left first.1 second later,
)
  where
    whole : lowest (xs ++ ys) ++ left ≡ lowest xs ++ (lowest ys ++ left)
    whole = ap (λ (those : List AwaitedStretch). those ++ left) (map-append as_lowest xs ys) ∙ append_assoc (lowest xs) (lowest ys) left

    after : (b : AwaitedStretch) → Contains (lowest (xs ++ ys) ++ left) b → ¬ (IsAwaitedBefore down b (as_lowest x))
    after b there = elim (Contains-append_cases (lowest xs) (lowest ys ++ left) b (subst (λ (those : List AwaitedStretch). Contains those b) whole there)) [
      | inl soon ↦ all_at (λ (c : AwaitedStretch). ¬ (IsAwaitedBefore down c (as_lowest x))) (lowest xs ++ mid) b first.0 (Contains-append_left (lowest xs) mid b soon)
      | inr late ↦
          let (m, here, none) = later b late in
          not_before_then down b m (as_lowest x) none
          (all_at (λ (c : AwaitedStretch). ¬ (IsAwaitedBefore down c (as_lowest x))) (lowest xs ++ mid) m first.0 (Contains-append_right (lowest xs) mid m here))
    ]

-- a region that was awaited is as a stretch what it was
pub same_lowest : (next : AwaitedStretch) → next.stretch.level ≡ 0 → next ≡ as_lowest (record { value = next.value; region = next.stretch.span })
same_lowest next none = ap (λ (l : ℕ). record { value = next.value; stretch = record { span = next.stretch.span; level = l } }) none
