-- The way down to a stretch, and its parts, over any pages.
use Rattle.std.proofs.Common.{◌≡◌, ◌≤◌, ◌<◌, ◌+◌, ◌-◌, ◌++◌, inl, inr, ℕ, zero, suc, List, [], ◌∷◌, Option, Some, None, IfSome, length, slice_get, ◌∙◌, sym, ap, subst, refl, arith}
use Rattle.ub_index.proofs.Common.{AllByRecursion, ArePartsOn, AreThose, ascend_first, ascend_right, AscendTo, before_le, before_trans, ComesTo, Corners}
use Rattle.ub_index.proofs.Common.{entries_of, Entry, entry_at, FallsTo, first_or, HasPage, HoldsKey, IndexView, IsBefore, IsNotTaken, IsOneOf, IsStretchOn}
use Rattle.ub_index.proofs.Common.{Key, le_trans, LeadsTo, MeetsAny, node_on, not_before_self, origin, PageFault, parts_on, StopsAt, StoreFacts, Stretch}
use Rattle.ub_index.proofs.Common.{stretch_of, stretches_to, top, whole_stretch}
use Rattle.ub_index.proofs.StretchSteps.{stretches_long}
use Rattle.ub_index.proofs.WaysFacts.{first_up_to, with_none}
use Rattle.ub_page.specs.declared.entries.TheConstants.{MAX_ENTRIES}

-- ---- one of the entries of a page in order

-- what is before the next one is before the end
next_to_end : (key : Key) (below : Entry) (after : List Entry) (end : Option Key) → AscendTo (below ∷ after) end → IfSome (first_or after end) (IsBefore key) → IfSome end (IsBefore key)
next_to_end key below [] end up h = h
next_to_end key below (x ∷ after) None up h = tt
next_to_end key below (x ∷ after) (Some limit) up h = before_trans key x.first limit h (ascend_first x after (Some limit) up.1)

module _ (entries : List Entry) (end : Option Key) (up : AscendTo entries end) (below : Entry) (next : Option Key) (one : IsOneOf entries end below next) where
  rest_up : AscendTo (below ∷ one.after) end
  rest_up = ascend_right one.before (below ∷ one.after) end (subst (λ (xs : List Entry). AscendTo xs end) one.parts up)

  -- it begins before the next one, and not before the first
  pub one_before : IfSome next (IsBefore below.first)
  one_before = subst (λ (o : Option Key). IfSome o (IsBefore below.first)) (sym one.next_is) rest_up.0

  one_from : (first : Key) → first_or entries None ≡ Some first → ¬ (IsBefore below.first first)
  one_from first begins =
      first_up_to one.before below one.after end (subst (λ (xs : List Entry). AscendTo xs end) one.parts up) first
      (with_none one.before below one.after end ∙ subst (λ (xs : List Entry). first_or xs None ≡ Some first) one.parts begins)

  -- what it holds is held by all of them
  pub one_holds : (first key : Key) → first_or entries None ≡ Some first → HoldsKey key below.first next → HoldsKey key first end
  one_holds first key begins h = record {
    from = le_trans first below.first key (one_from first begins) h.from;
    to = next_to_end key below one.after end rest_up (subst (λ (o : Option Key). IfSome o (IsBefore key)) one.next_is h.to);
  }

-- and falls to it
pub one_falls : (key : Key) (entries : List Entry) (end : Option Key) (below : Entry) (next : Option Key) → IsOneOf entries end below next → HoldsKey key below.first next
    → FallsTo key entries end below next
one_falls key entries end below next one h = record {
  before = one.before;
  after = one.after;
  parts = one.parts;
  next_is = one.next_is;
  from = inr h.from;
  to = to_of one.after one.next_is;
}
  where
    to_of : (after : List Entry) → next ≡ first_or after end → IfSome (first_or after None) (IsBefore key)
    to_of [] e = tt
    to_of (x ∷ after) e = subst (λ (o : Option Key). IfSome o (IsBefore key)) e h.to

-- what holds of the stretch of each entry holds of all
pub stretches_each : (Q : Stretch → Type 0) (last level : ℕ) (xs : List Entry) (end : Option Key)
    → ((below : Entry) (next : Option Key) → IsOneOf xs end below next → Q (stretch_of last level below next)) → AllByRecursion Q (stretches_to last level xs end)
stretches_each Q last level [] end each = tt
stretches_each Q last level (x ∷ xs) end each = (
  each x (first_or xs end) (record { before = []; after = xs; parts = refl; next_is = refl }),
  stretches_each Q last level xs end (λ below next one. each below next (record {
    before = x ∷ one.before;
    after = one.after;
    parts = ap (λ (ys : List Entry). x ∷ ys) one.parts;
    next_is = one.next_is;
  })),
)

-- ---- the way to a stretch

pub comes_self : (last : ℕ) (pages : List (List ℕ)) (level : ℕ) (entry : Entry) (end : Option Key) → ComesTo last pages level entry end (stretch_of last level entry end)
comes_self last pages zero entry end = refl
comes_self last pages (suc level) entry end = inl refl

module _ (last : ℕ) (pages : List (List ℕ)) where
  -- what the stretch holds the entry holds with which the way begins
  pub comes_holds : (level : ℕ) (entry : Entry) (end : Option Key) (s : Stretch) (key : Key) → ComesTo last pages level entry end s → HoldsKey key s.span.first s.span.next
      → HoldsKey key entry.first end
  comes_holds zero entry end s key h holds = subst (λ (x : Stretch). HoldsKey key x.span.first x.span.next) h holds
  comes_holds (suc level) entry end s key (inl h) holds = subst (λ (x : Stretch). HoldsKey key x.span.first x.span.next) h holds
  comes_holds (suc level) entry end s key (inr (named, below, next, one, comes)) holds =
      one_holds (entries_of pages entry.page) end named.fits.ascends below next one entry.first key named.fits.begins (comes_holds level below next s key comes holds)

  -- to what a stretch of level 0 holds the way leads to its entry
  pub comes_leads : (level : ℕ) (entry : Entry) (end : Option Key) (s : Stretch) (key : Key) → ComesTo last pages level entry end s → s.level ≡ 0 → HoldsKey key s.span.first s.span.next
      → LeadsTo last pages key level entry end (entry_at s.span) s.span.next
  comes_leads zero entry end s key h low holds = (ap (λ (x : Stretch). entry_at x.span) h, ap (λ (x : Stretch). x.span.next) h)
  comes_leads (suc level) entry end s key (inl h) low holds = let high = ap (λ (x : Stretch). x.level) h in absurd (omega arith)
  comes_leads (suc level) entry end s key (inr (named, below, next, one, comes)) low holds = (
    named,
    below,
    next,
    one_falls key (entries_of pages entry.page) end below next one (comes_holds level below next s key comes holds),
    comes_leads level below next s key comes low holds,
  )

  -- and where the page of a higher one isn't taken, the way stops there
  pub comes_stops : (level : ℕ) (entry : Entry) (end : Option Key) (s : Stretch) (key : Key) (fault : Option PageFault) → ComesTo last pages level entry end s → 1 ≤ s.level
      → IsNotTaken last pages s.level (entry_at s.span) s.span.next fault → HoldsKey key s.span.first s.span.next → StopsAt last pages key level entry end s.span.page fault
  comes_stops zero entry end s key fault h some not holds = let low = ap (λ (x : Stretch). x.level) h in absurd (omega arith)
  comes_stops (suc level) entry end s key fault (inl h) some not holds =
      inl (ap (λ (x : Stretch). x.span.page) h, subst (λ (x : Stretch). IsNotTaken last pages x.level (entry_at x.span) x.span.next fault) h not)
  comes_stops (suc level) entry end s key fault (inr (named, below, next, one, comes)) some not holds = inr (
    named,
    below,
    next,
    one_falls key (entries_of pages entry.page) end below next one (comes_holds level below next s key comes holds),
    comes_stops level below next s key fault comes some not holds,
  )

  -- where its page fits, the way goes on to each of its parts
  pub comes_part : (level : ℕ) (entry : Entry) (end : Option Key) (s : Stretch) (below : Entry) (next : Option Key) → ComesTo last pages level entry end s → 1 ≤ s.level
      → HasPage last pages s → IsOneOf (entries_of pages s.span.page) s.span.next below next → ComesTo last pages level entry end (stretch_of last (s.level - 1) below next)
  comes_part zero entry end s below next h some named one = let low = ap (λ (x : Stretch). x.level) h in absurd (omega arith)
  comes_part (suc level) entry end s below next (inl h) some named one =
      let high : s.level ≡ suc level = ap (λ (x : Stretch). x.level) h in
      let down : level ≡ s.level - 1 = omega arith in
      inr (
        subst (λ (x : Stretch). HasPage last pages x) h named,
        below,
        next,
        subst (λ (x : Stretch). IsOneOf (entries_of pages x.span.page) x.span.next below next) h one,
        subst (λ (n : ℕ). ComesTo last pages level below next (stretch_of last n below next)) down (comes_self last pages level below next),
      )
  comes_part (suc level) entry end s below next (inr (fits, middle, beyond, among, comes)) some named one =
      inr (fits, middle, beyond, among, comes_part level middle beyond s below next comes some named one)

-- ---- those of a list, and their order

module _ {X : Type 0} (P : X → Type 0) where
  pub those_few : (xs those : List X) → AreThose P xs those → length those ≤ length xs
  those_few [] those are = let long = ap length are in omega arith
  those_few (x ∷ xs) those (inl (p, rest, is, more)) = let few = those_few xs rest more in let long = ap length is in omega arith
  those_few (x ∷ xs) those (inr are) = let few = those_few xs those are.1 in omega arith

  -- what holds of those that have the property, where something holds of all
  pub those_each : (Q R : X → Type 0) → ((x : X) → Q x → P x → R x) → (xs those : List X) → AreThose P xs those → AllByRecursion Q xs → AllByRecursion R those
  those_each Q R f [] those are all = subst (λ (ys : List X). AllByRecursion R ys) (sym are) tt
  those_each Q R f (x ∷ xs) those (inl (p, rest, is, more)) all = subst (λ (ys : List X). AllByRecursion R ys) (sym is) (f x all.0 p, those_each Q R f xs rest more all.1)
  those_each Q R f (x ∷ xs) those (inr (not, are)) all = those_each Q R f xs those are all.1

module _ {X : Type 0} (R : X → X → Type 0) where
  -- each is so to all that come after it
  abbrev Rises : List X → Type 0
  Rises [] = Unit {0}
  Rises (x ∷ xs) = AllByRecursion (R x) xs × Rises xs

  those_rise : (P : X → Type 0) (xs those : List X) → AreThose P xs those → Rises xs → Rises those
  those_rise P [] those are up = subst (λ (ys : List X). Rises ys) (sym are) tt
  those_rise P (x ∷ xs) those (inl (p, rest, is, more)) up =
      subst (λ (ys : List X). Rises ys) (sym is) (those_each P (R x) (R x) (λ y q h. q) xs rest more up.0, those_rise P xs rest more up.1)
  those_rise P (x ∷ xs) those (inr (not, are)) up = those_rise P xs those are up.1

  all_get : (Q : X → Type 0) (xs : List X) (i : ℕ) (x : X) → AllByRecursion Q xs → slice_get xs i ≡ Some x → Q x
  all_get Q [] i x all at = cc
  all_get Q (y ∷ xs) zero x all at = let same : y ≡ x = cc in subst Q same all.0
  all_get Q (y ∷ xs) (suc i) x all at = all_get Q xs i x all.1 at

  rises_get : (xs : List X) (i j : ℕ) (a b : X) → Rises xs → i < j → slice_get xs i ≡ Some a → slice_get xs j ≡ Some b → R a b
  rises_get [] i j a b up lt at_i at_j = cc
  rises_get (x ∷ xs) i zero a b up lt at_i at_j = absurd (omega arith)
  rises_get (x ∷ xs) zero (suc j) a b up lt at_i at_j =
      let same : x ≡ a = cc in
      subst (λ (y : X). R y b) same (all_get (R x) xs j b up.0 at_j)
  rises_get (x ∷ xs) (suc i) (suc j) a b up lt at_i at_j = rises_get xs i j a b up.1 (omega arith) at_i at_j

-- each key of the one is before each of the other
abbrev pub IsAhead : Stretch → Stretch → Type 0
IsAhead a b = (one other : Key) → HoldsKey one a.span.first a.span.next → HoldsKey other b.span.first b.span.next → IsBefore one other

nil_is_none : (before : List Entry) (x : Entry) (after : List Entry) → [] ≡ before ++ (x ∷ after) → ⊥
nil_is_none [] x after e = cc
nil_is_none (y ∷ before) x after e = cc

-- what is before the first of entries is before each
before_one : (key : Key) (xs : List Entry) (end : Option Key) → AscendTo xs end → (below : Entry) (next : Option Key) → IsOneOf xs end below next → IfSome (first_or xs end) (IsBefore key)
    → IsBefore key below.first
before_one key [] end up below next one h = absurd (nil_is_none one.before below one.after one.parts)
before_one key (x ∷ xs) end up below next one h = before_le key x.first below.first h (one_from (x ∷ xs) end up below next one x.first refl)

stretches_rise : (last level : ℕ) (xs : List Entry) (end : Option Key) → AscendTo xs end → Rises IsAhead (stretches_to last level xs end)
stretches_rise last level [] end up = tt
stretches_rise last level (x ∷ xs) end up = (
  stretches_each (IsAhead (stretch_of last level x (first_or xs end))) last level xs end (λ below next one key other h k.
      before_le key below.first other (before_one key xs end up.1 below next one h.to) k.from),
  stretches_rise last level xs end up.1,
)

-- ---- the stretches of an index

pub whole_told : (index : IndexView) (store : StoreFacts) → IsStretchOn index store (whole_stretch index)
whole_told index store = record {
  low = omega arith;
  holds = record { from = not_before_self origin; to = tt };
  from = refl;
  to = refl;
  way = λ honest. comes_self index.last store.pages index.levels (top index.root) None;
}

module _ (index : IndexView) (store : StoreFacts) (boxes : List Corners) (s : Stretch) (parts : List Stretch) (are : ArePartsOn index store boxes s parts) where
  pub some_level : 1 ≤ s.level
  some_level = let low = are.fits.is.is.low in let same = are.fits.level_is in omega arith

  pub part_told : IsStretchOn index store s → (below : Entry) (next : Option Key) → IsOneOf (node_on are.page).entries s.span.next below next
      → IsStretchOn index store (stretch_of index.last (s.level - 1) below next)
  part_told told below next one = record {
    low = let low = told.low in omega arith;
    holds = record { from = not_before_self below.first; to = one_before (node_on are.page).entries s.span.next are.fits.ascends below next one };
    from = refl;
    to = refl;
    way = λ honest.
        comes_part index.last store.pages index.levels (top index.root) None s below next (told.way honest) some_level (are.named honest)
        (subst (λ (p : List ℕ). IsOneOf (node_on p).entries s.span.next below next) (are.there honest) one);
  }

  pub parts_all_told : IsStretchOn index store s → AllByRecursion (IsStretchOn index store) (parts_on index.last s are.page)
  parts_all_told told = stretches_each (IsStretchOn index store) index.last (s.level - 1) (node_on are.page).entries s.span.next (λ below next one. part_told told below next one)

  pub parts_told : IsStretchOn index store s
      → AllByRecursion (λ part. IsStretchOn index store part × (s.level ≡ part.level + 1) × MeetsAny boxes part) parts × (length parts ≤ MAX_ENTRIES)
  parts_told told = (
    those_each (MeetsAny boxes) (λ part. IsStretchOn index store part × (s.level ≡ part.level + 1)) (λ part. IsStretchOn index store part × (s.level ≡ part.level + 1) × MeetsAny boxes part)
        (λ part h meets. (h.0, h.1, meets)) (parts_on index.last s are.page) parts are.those
        (stretches_each (λ part. IsStretchOn index store part × (s.level ≡ part.level + 1)) index.last (s.level - 1) (node_on are.page).entries s.span.next
        (λ below next one. (part_told told below next one, let some = some_level in omega arith))),
    let few = those_few (MeetsAny boxes) (parts_on index.last s are.page) parts are.those in
        let long = stretches_long index.last (s.level - 1) (node_on are.page).entries s.span.next in
        let most = are.fits.is.is.few in
        omega arith,
  )

  pub parts_up : (i j : ℕ) (a b : Stretch) → i < j → slice_get parts i ≡ Some a → slice_get parts j ≡ Some b → IsAhead a b
  parts_up i j a b lt at_i at_j =
      rises_get IsAhead parts i j a b
      (those_rise IsAhead (MeetsAny boxes) (parts_on index.last s are.page) parts are.those
      (stretches_rise index.last (s.level - 1) (node_on are.page).entries s.span.next are.fits.ascends)) lt at_i at_j

  pub parts_inside : AllByRecursion (λ part. (key : Key) → HoldsKey key part.span.first part.span.next → HoldsKey key s.span.first s.span.next) parts
  parts_inside =
      those_each (MeetsAny boxes) (λ part. (key : Key) → HoldsKey key part.span.first part.span.next → HoldsKey key s.span.first s.span.next)
      (λ part. (key : Key) → HoldsKey key part.span.first part.span.next → HoldsKey key s.span.first s.span.next) (λ part h meets. h) (parts_on index.last s are.page) parts are.those
      (stretches_each (λ part. (key : Key) → HoldsKey key part.span.first part.span.next → HoldsKey key s.span.first s.span.next) index.last (s.level - 1)
      (node_on are.page).entries s.span.next
      (λ below next one key h. one_holds (node_on are.page).entries s.span.next are.fits.ascends below next one s.span.first key are.fits.begins h))
