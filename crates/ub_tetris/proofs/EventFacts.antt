-- The order of a sweep as a comparison, and the heap of those awaited.
use Rattle.std.proofs.Common.{◌≡◌, ◌≤◌, ◌<◌, ◌<ℤ◌, ◌∙◌, ◌++◌, ℕ, ℤ, pos, zero, suc, Bool, true, false, List, [], ◌∷◌, Option, Some, None, Contains, IsPermutation, length, slice_index_or, inl, inr, refl, sym, ap, subst, arith, append_assoc}
use Rattle.std.proofs.lemmas.Int.{ints}
use Rattle.std.proofs.lemmas.List.{append-nil, map-append}
use Rattle.std.proofs.lemmas.List.Sorted.{Contains-permutation, IsPermutation-append_comm, IsPermutation-cons, IsPermutation-map, IsPermutation-refl, IsPermutation-sym, IsPermutation-trans, length_permutation}
use Rattle.std.specs.BinaryHeap.{IsHeap, IsUpperBound}
use Rattle.std.specs.Cmp.{int_cmp_is, nat_cmp_is}
use Rattle.std.specs.List.{AllByRecursion}
use Rattle.std.specs.Ordering.{int_cmp, is_lt, nat_cmp}
use Rattle.std.specs.declared.cmp.Ordering.{Ordering}
use Rattle.std.specs.declared.cmp.Ordering.TheVariants.{Less, Equal}
use Rattle.ub_bigmin.specs.Box.{Corners, IsValueInSpan}
use Rattle.ub_planning.specs.Visits.{IsAlong}
use Rattle.ub_query.proofs.Laws.{all_at, all_permutation, contains_cases, contains_here, contains_map, contains_none}
use Rattle.ub_table.proofs.Laws.{before_parts}
use Rattle.ub_tetris.specs.Awaited.{AreValued, AwaitedStretch, HaveDimension, IsAwaitedBefore, IsFirstOn, IsFirstValue, awaited_at}
use Rattle.ub_tetris.specs.Held.{turned}
use Rattle.ub_tetris.specs.declared.course.Course.{Course}
use Rattle.ub_tetris.specs.declared.event.Awaited.{Awaited}
use Rattle.ub_tetris.specs.inner.Events.{Ahead, AreHeaped, AwaitsWhole, HasQueued, IsFirstAwaited, IsValueOfFirst, TakesNext, ahead_on, awaited_cmp, awaited_of, event_cmp, rank_of, seen}
use Rattle.ub_tree.specs.Spans.{Meets, Region}
use Rattle.ub_tree.specs.Stretches.{Stretch}

-- ---- the comparison

less_of : (x y : ℤ) → x <ℤ y → int_cmp x y ≡ Less
less_of x y h = sym (int_cmp_is x y Less h)

equal_of : (x y : ℤ) → x ≡ y → int_cmp x y ≡ Equal
equal_of x y h = sym (int_cmp_is x y Equal h)

nat_less_of : (x y : ℕ) → x < y → nat_cmp x y ≡ Less
nat_less_of x y h = sym (nat_cmp_is x y Less h)

nat_equal_of : (x y : ℕ) → x ≡ y → nat_cmp x y ≡ Equal
nat_equal_of x y h = sym (nat_cmp_is x y Equal h)

along_less : (down : Bool) (x y : ℕ) → IsAlong down x y → int_cmp (turned down (pos x)) (turned down (pos y)) ≡ Less
along_less false x y h = less_of (pos x) (pos y) (omega (arith, ints, h))
along_less true x y h = less_of (turned true (pos x)) (turned true (pos y)) (omega (arith, ints, h))

along_equal : (down : Bool) (x y : ℕ) → x ≡ y → int_cmp (turned down (pos x)) (turned down (pos y)) ≡ Equal
along_equal down x y h = equal_of (turned down (pos x)) (turned down (pos y)) (ap (λ (v : ℕ). turned down (pos v)) h)

-- what the sweep comes to before another one is less
before_by : (down : Bool) (a b : Awaited) → IsAwaitedBefore down (seen a) (seen b) → int_cmp (turned down (pos a.value)) (turned down (pos b.value)) ≡ int_cmp (rank_of a) (rank_of b) → event_cmp a b ≡ Less
before_by down a b (inl along) ranks = rw (← ranks, along_less down a.value b.value along) refl
before_by down a b (inr (same, before)) ranks = elim (before_parts a.stretch.span.first b.stretch.span.first before) [
  | inl lt ↦ rw (← ranks, along_equal down a.value b.value same, nat_less_of a.stretch.span.first.z b.stretch.span.first.z lt) refl
  | inr both ↦ rw (
    ← ranks,
    along_equal down a.value b.value same,
    nat_equal_of a.stretch.span.first.z b.stretch.span.first.z both.0,
    nat_less_of a.stretch.span.first.number b.stretch.span.first.number both.1,
  ) refl
]

pub before_less : (down : Bool) (a b : Awaited) → a.is_descending ≡ down → b.is_descending ≡ down → IsAwaitedBefore down (seen a) (seen b) → event_cmp a b ≡ Less
before_less down a b left right before =
    before_by down a b before (ap (λ (d : Bool). int_cmp (turned d (pos a.value)) (turned down (pos b.value))) (sym left) ∙ ap (λ (d : Bool). int_cmp (rank_of a) (turned d (pos b.value))) (sym right))

-- ---- the heap

never_less : (r : Ordering) → is_lt r ≡ false → ¬ (r ≡ Less)
never_less r no_less e = let told : is_lt r ≡ true = ap is_lt e in cc

pub first_among : (down : Bool) (x : Awaited) (items : List Awaited) → x.is_descending ≡ down → AllByRecursion (λ a. a.is_descending ≡ down) items → IsUpperBound awaited_cmp x items
    → IsFirstAwaited down (seen x) (awaited_of items)
first_among down x [] is all top = tt
first_among down x (y ∷ items) is all top =
    (λ (before : IsAwaitedBefore down (seen y) (seen x)). never_less (awaited_cmp x y) top.0 (before_less down y x all.0 is before), first_among down x items is all.1 top.1)

contained : (items : List Awaited) (n : ℕ) (x : Awaited) → n < length items → x ≡ slice_index_or items n x → Contains items x
contained [] n x within is = absurd (omega arith)
contained (y ∷ items) zero x within is = (0, omega arith, sym is)
contained (y ∷ items) (suc n) x within is = let (k, far, at) = contained items n x (omega arith) is in (suc k, omega arith, at)

pub first_is : (course : Course) (items : List Awaited) (x : Awaited) → 0 < length items → x ≡ slice_index_or items 0 x → IsUpperBound awaited_cmp x items → AreHeaped course items
    → IsValueOfFirst (ahead_on course (awaited_of items)) (Some x.value)
first_is course items x some is top are =
    let there = contained items 0 x some is in
    (seen x, contains_map seen items x there, refl, first_among course.is_descending x items (all_at (λ (a : Awaited). a.is_descending ≡ course.is_descending) items x are.along there) are.along top)

pub none_awaited : (items : List Awaited) → length items ≡ 0 → awaited_of items ≡ []
none_awaited [] none = refl
none_awaited (x ∷ items) none = absurd (omega arith)

pub first_taken : (course : Course) (items left : List Awaited) (x : Awaited) → IsPermutation items (x ∷ left) → IsUpperBound awaited_cmp x left → AreHeaped course items
    → TakesNext (ahead_on course (awaited_of items)) (ahead_on course (awaited_of left)) (Some x)
first_taken course items left x same top are =
    let along = all_permutation (λ (a : Awaited). a.is_descending ≡ course.is_descending) items (x ∷ left) same are.along in
    (refl, IsPermutation-map seen items (x ∷ left) same, first_among course.is_descending x left along.0 along.1 top)

pub left_heaped : (course : Course) (items left : List Awaited) (x : Awaited) → IsPermutation items (x ∷ left) → IsHeap awaited_cmp left → AreHeaped course items → AreHeaped course left
left_heaped course items left x same heap are =
    record { heap = heap; along = (all_permutation (λ (a : Awaited). a.is_descending ≡ course.is_descending) items (x ∷ left) same are.along).1 }

pub more_heaped : (course : Course) (items now : List Awaited) (x : Awaited) → IsPermutation (x ∷ items) now → IsHeap awaited_cmp now → x.is_descending ≡ course.is_descending → AreHeaped course items
    → AreHeaped course now
more_heaped course items now x same heap is are = record { heap = heap; along = all_permutation (λ (a : Awaited). a.is_descending ≡ course.is_descending) (x ∷ items) now same (is, are.along) }

pub more_awaited : (items now : List Awaited) (x : Awaited) → IsPermutation (x ∷ items) now → IsPermutation (seen x ∷ awaited_of items) (awaited_of now)
more_awaited items now x same = IsPermutation-map seen (x ∷ items) now same

-- ---- parts put in

all_pushed : {E : Type 0} (P : E → Type 0) (xs : List E) (x : E) → AllByRecursion P xs → P x → AllByRecursion P (xs ++ x ∷ [])
all_pushed P [] x all is = (is, tt)
all_pushed P (y ∷ xs) x all is = (all.0, all_pushed P xs x all.1 is)

pub queued_none : (boxes : List Corners) (start : Ahead) → HaveDimension start.dim boxes → HasQueued boxes start [] start
queued_none boxes start within = record {
  course = (refl, refl);
  within = within;
  queued = [];
  are = refl;
  valued = tt;
  now_are = subst (λ (those : List AwaitedStretch). IsPermutation those start.stretches) (sym (append-nil start.stretches)) (IsPermutation-refl start.stretches);
}

pub queued_more : (boxes : List Corners) (start old new : Ahead) (taken : List Stretch) (x : Awaited) (part : Stretch) → HasQueued boxes start taken old
    → new ≡ record old { stretches = new.stretches } → IsPermutation (seen x ∷ old.stretches) new.stretches → IsFirstValue boxes old.dim old.is_descending part.span x.value → x.stretch ≡ part
    → HasQueued boxes start (taken ++ part ∷ []) new
queued_more boxes start old new taken x part has same put value is =
    let a : AwaitedStretch = record { value = x.value; stretch = part } in
    let as_part : seen x ≡ a = ap (λ (s : Stretch). record { value = x.value; stretch = s }) is in
    let puts : IsPermutation (a ∷ old.stretches) new.stretches = subst (λ (b : AwaitedStretch). IsPermutation (b ∷ old.stretches) new.stretches) as_part put in
    let before : List AwaitedStretch = start.stretches ++ has.queued in
    let all : AreValued boxes old.dim old.is_descending (has.queued ++ a ∷ []) =
    all_pushed (λ (b : AwaitedStretch). IsFirstValue boxes old.dim old.is_descending b.stretch.span b.value) has.queued a has.valued value in
    subst (λ (v : Ahead). HasQueued boxes start (taken ++ part ∷ []) v) (sym same) (record {
      course = has.course;
      within = has.within;
      queued = has.queued ++ a ∷ [];
      are = map-append (λ (b : AwaitedStretch). b.stretch) has.queued (a ∷ []) ∙ ap (λ (those : List Stretch). those ++ part ∷ []) has.are;
      valued = all;
      now_are = subst (λ (those : List AwaitedStretch). IsPermutation those new.stretches) (append_assoc start.stretches has.queued (a ∷ []))
          (IsPermutation-trans (before ++ a ∷ []) (a ∷ before) new.stretches (IsPermutation-append_comm before (a ∷ []))
          (IsPermutation-trans (a ∷ before) (a ∷ old.stretches) new.stretches (IsPermutation-cons a before old.stretches has.now_are) puts));
    })

-- ---- the whole

only : {E : Type 0} (x : E) (ys : List E) → IsPermutation (x ∷ []) ys → ys ≡ x ∷ []
only x [] same = let long : 1 ≡ 0 = sym (length_permutation (x ∷ []) [] same) in absurd (omega (arith, long))
only x (y ∷ []) same = elim (contains_cases x [] y (Contains-permutation (y ∷ []) (x ∷ []) y (IsPermutation-sym (x ∷ []) (y ∷ []) same) (contains_here y []))) [
  | inl is ↦ ap (λ (z : _). z ∷ []) (sym is)
  | inr none ↦ absurd (contains_none y none)
]
only x (y ∷ z ∷ ys) same = let long : length (y ∷ z ∷ ys) ≡ 1 = length_permutation (x ∷ []) (y ∷ z ∷ ys) same in absurd (omega (arith, long))

pub whole_put : (boxes : List Corners) (course : Course) (whole : Stretch) (found : Option ℕ) (value : ℕ) (old new : Ahead) → old ≡ ahead_on course [] → found ≡ Some value
    → IsFirstOn course.is_descending (IsValueInSpan boxes whole.span.from whole.span.to course.dim) found
    → new ≡ record old { stretches = new.stretches } → IsPermutation (record { value = value; stretch = whole } ∷ old.stretches) new.stretches → AwaitsWhole boxes course whole new
whole_put boxes course whole found value old new start some first same put = record {
  value = found;
  first = first;
  is = same ∙ ap (λ (v : Ahead). record v { stretches = new.stretches }) start
      ∙ ap (λ (those : List AwaitedStretch). ahead_on course those)
      (only (record { value = value; stretch = whole }) new.stretches
      (subst (λ (v : Ahead). IsPermutation (record { value = value; stretch = whole } ∷ v.stretches) new.stretches) start put))
      ∙ ap (λ (o : Option ℕ). ahead_on course (awaited_at whole o)) (sym some);
}

pub whole_none : (boxes : List Corners) (course : Course) (whole : Stretch) (found : Option ℕ) (old : Ahead) → old ≡ ahead_on course [] → found ≡ None
    → IsFirstOn course.is_descending (IsValueInSpan boxes whole.span.from whole.span.to course.dim) found → AwaitsWhole boxes course whole old
whole_none boxes course whole found old start none first =
    record { value = found; first = first; is = start ∙ ap (λ (o : Option ℕ). ahead_on course (awaited_at whole o)) (sym none) }

-- ---- a stretch that meets the boxes has a first value

met_value : (boxes : List Corners) (region : Region) (dim : ℕ) → Meets boxes region → (v : ℕ) × IsValueInSpan boxes region.from region.to dim v
met_value boxes region dim (z, held, from, to) =
    let at = held.2.2 in
    (_, (held.0, held.2.0, held.1, held.2.1, subst (λ (a : ℕ). region.from ≤ a) (sym at) from, subst (λ (a : ℕ). a ≤ region.to) (sym at) to, refl))

none_first : (down : Bool) (P : ℕ → Type 0) (v : ℕ) → IsFirstOn down P None → ¬ (P v)
none_first true P v none = none v
none_first false P v none = none v

pub met_first : (boxes : List Corners) (region : Region) (dim : ℕ) (down : Bool) (found : Option ℕ) → Meets boxes region
    → IsFirstOn down (IsValueInSpan boxes region.from region.to dim) found → found ≡ None → ⊥
met_first boxes region dim down found meets first none =
    let (v, is) = met_value boxes region dim meets in
    none_first down (IsValueInSpan boxes region.from region.to dim) v (subst (λ (o : Option ℕ). IsFirstOn down (IsValueInSpan boxes region.from region.to dim) o) none first) is
