-- The regions within a stretch of an index: which they are, that they cover it, and that its parts have them between them.
use Rattle.std.proofs.Common.{◌≡◌, ◌≤◌, ◌<◌, ◌-◌, ◌++◌, ◌↔◌, inl, inr, ℕ, zero, suc, Bool, true, false, not, List, [], ◌∷◌, Option, Some, None, IfSome, Contains, filter, length, slice_get, ◌∙◌, sym, ap, subst, refl, arith, append_assoc, append-nil}
use Rattle.ub_index.proofs.Common.{address_before, all_left, all_more, all_right, AllByRecursion, and_from, and_left, and_parts, and_right, ArePartsOn}
use Rattle.ub_index.proofs.Common.{AreThose, ascend_first, ascend_left, ascend_right, AscendTo, before_of, before_trans, cases_lt, ComesTo, Corners, each_right}
use Rattle.ub_index.proofs.Common.{EachTo, end_before, entries_in, entries_of, Entry, entry_at, filter-append, first_append, first_or, flat_map}
use Rattle.ub_index.proofs.Common.{flat_map-append, get_or_from_slice_get, holds_key, HoldsKey, IndexView, is_before_end, IsBefore, IsEntry, IsIndexOn, IsOneOf}
use Rattle.ub_index.proofs.Common.{IsStretchOn, IsUnder, Key, Meets, MeetsAny, node_on, not_before_self, not_both_before, not_from_false, not_from_true}
use Rattle.ub_index.proofs.Common.{parts_on, precedes, precedes_of, Region, region_of, regions_of, slice_get_read, slice_get_within, StoreFacts, Stretch}
use Rattle.ub_index.proofs.Common.{stretch_of, stretches_to, top, true≢false, under, whole_stretch, within}
use Rattle.ub_index.proofs.OrderFacts.{under_first}
use Rattle.ub_index.proofs.PlaceFacts.{each_entry}
use Rattle.ub_index.proofs.SpanFacts.{with_span}
use Rattle.ub_index.proofs.StretchFacts.{part_told, parts_all_told, some_level, whole_told}
use Rattle.ub_index.proofs.StretchSteps.{begins_up_to, ends_up}
use Rattle.ub_index.proofs.WayFacts.{first_is, in_order, not_true, rest_begins}

-- ---- the regions of entries, the last of which ends before the end

abbrev pub regions_to : ℕ → List Entry → Option Key → List Region
regions_to last [] end = []
regions_to last (entry ∷ entries) end = region_of last entry (first_or entries end) ∷ regions_to last entries end

regions_whole : (last : ℕ) (xs : List Entry) → regions_of last xs ≡ regions_to last xs None
regions_whole last [] = refl
regions_whole last (x ∷ xs) =
    ap (λ (o : Option Key). region_of last x o ∷ regions_of last xs) (sym (first_is xs)) ∙ ap (λ (rs : List Region). region_of last x (first_or xs None) ∷ rs) (regions_whole last xs)

regions_append : (last : ℕ) (xs ys : List Entry) (end : Option Key) → regions_to last (xs ++ ys) end ≡ regions_to last xs (first_or ys end) ++ regions_to last ys end
regions_append last [] ys end = refl
regions_append last (x ∷ xs) ys end =
    ap (λ (o : Option Key). region_of last x o ∷ regions_to last (xs ++ ys) end) (first_append xs ys end)
    ∙ ap (λ (rs : List Region). region_of last x (first_or xs (first_or ys end)) ∷ rs) (regions_append last xs ys end)

region_at : (last : ℕ) (xs : List Entry) (end : Option Key) (i : ℕ) (r : Region) → slice_get (regions_to last xs end) i ≡ Some r
    → (e : Entry) × (next : Option Key) × (r ≡ region_of last e next)
region_at last [] end i r at = cc
region_at last (x ∷ xs) end zero r at = let same : region_of last x (first_or xs end) ≡ r = cc in (x, first_or xs end, sym same)
region_at last (x ∷ xs) end (suc i) r at = region_at last xs end i r at

-- ---- which of them a stretch holds

module _ {X : Type 0} (p : X → Bool) where
  filter_yes : (x : X) (xs ys : List X) → p x ≡ true → filter p xs ≡ ys → filter p (x ∷ xs) ≡ x ∷ ys
  filter_yes x xs ys t is = rw (t, is) refl

  filter_no : (x : X) (xs ys : List X) → p x ≡ false → filter p xs ≡ ys → filter p (x ∷ xs) ≡ ys
  filter_no x xs ys f is = rw (f, is) refl

is_end_true : (key : Key) (end : Option Key) → IfSome end (IsBefore key) → is_before_end key end ≡ true
is_end_true key None h = refl
is_end_true key (Some limit) h = precedes_of key limit h

is_end_of : (key : Key) (end : Option Key) → is_before_end key end ≡ true → IfSome end (IsBefore key)
is_end_of key None t = tt
is_end_of key (Some limit) t = before_of key limit t

-- the test and the property are one
pub held_key : (s : Stretch) (key : Key) → HoldsKey key s.span.first s.span.next → holds_key s key ≡ true
held_key s key h =
    and_from (not (precedes key s.span.first)) (is_before_end key s.span.next) (not_from_false (precedes key s.span.first) (not_true key s.span.first h.from))
    (is_end_true key s.span.next h.to)

pub key_held : (s : Stretch) (key : Key) → holds_key s key ≡ true → HoldsKey key s.span.first s.span.next
key_held s key t =
    let parts = and_parts (not (precedes key s.span.first)) (is_before_end key s.span.next) t in
    record {
      from = λ back.
          let f = not_from_true (precedes key s.span.first) (precedes_of key s.span.first back) in
          true≢false (sym parts.0 ∙ f);
      to = is_end_of key s.span.next parts.1;
    }

not_early : (s : Stretch) (key : Key) → IsBefore key s.span.first → holds_key s key ≡ false
not_early s key h = and_left (not (precedes key s.span.first)) (is_before_end key s.span.next) (not_from_true (precedes key s.span.first) (precedes_of key s.span.first h))

not_late : (s : Stretch) (key next : Key) → s.span.next ≡ Some next → ¬ (IsBefore key next) → holds_key s key ≡ false
not_late s key next is h =
    and_right (not (precedes key s.span.first)) (is_before_end key s.span.next) (ap (is_before_end key) is ∙ not_true key next h)

module _ (last : ℕ) (s : Stretch) where
  all_in : (xs : List Entry) (end : Option Key) → AllByRecursion (λ e. holds_key s e.first ≡ true) xs → within s (regions_to last xs end) ≡ regions_to last xs end
  all_in [] end all = refl
  all_in (x ∷ xs) end all =
      filter_yes (λ (r : Region). holds_key s r.first) (region_of last x (first_or xs end)) (regions_to last xs end) (regions_to last xs end) all.0 (all_in xs end all.1)

  none_in : (xs : List Entry) (end : Option Key) → AllByRecursion (λ e. holds_key s e.first ≡ false) xs → within s (regions_to last xs end) ≡ []
  none_in [] end none = refl
  none_in (x ∷ xs) end none =
      filter_no (λ (r : Region). holds_key s r.first) (region_of last x (first_or xs end)) (regions_to last xs end) [] none.0 (none_in xs end none.1)

-- ---- entries in order

later_all : (x : Entry) (xs : List Entry) (end : Option Key) → AscendTo (x ∷ xs) end → AllByRecursion (λ e. IsBefore x.first e.first) xs
later_all x [] end up = tt
later_all x (y ∷ ys) end up = (
  up.0,
  all_more (λ (e : Entry). IsBefore y.first e.first) (λ (e : Entry). IsBefore x.first e.first) (λ e h. before_trans x.first y.first e.first up.0 h) ys (later_all y ys end up.1),
)

from_all : (x : Entry) (xs : List Entry) (end : Option Key) → AscendTo (x ∷ xs) end → AllByRecursion (λ e. ¬ (IsBefore e.first x.first)) (x ∷ xs)
from_all x xs end up = (
  not_before_self x.first,
  all_more (λ (e : Entry). IsBefore x.first e.first) (λ (e : Entry). ¬ (IsBefore e.first x.first)) (λ e h back. not_both_before x.first e.first h back) xs (later_all x xs end up),
)

to_all : (xs : List Entry) (end : Option Key) → AscendTo xs end → AllByRecursion (λ e. IfSome end (IsBefore e.first)) xs
to_all [] end up = tt
to_all (x ∷ xs) end up = (ascend_first x xs end up, to_all xs end up.1)

both_all : {X : Type 0} (P Q R : X → Type 0) → ((x : X) → P x → Q x → R x) → (xs : List X) → AllByRecursion P xs → AllByRecursion Q xs → AllByRecursion R xs
both_all P Q R f [] h k = tt
both_all P Q R f (x ∷ xs) h k = (f x h.0 k.0, both_all P Q R f xs h.1 k.1)

-- what a stretch holds of entries in order that stand before its own, behind them, and in it
module _ (last : ℕ) (s : Stretch) where
  none_before : (before rest : List Entry) → AscendTo before (first_or rest None) → first_or rest None ≡ Some s.span.first → AllByRecursion (λ e. holds_key s e.first ≡ false) before
  none_before before rest up is =
      all_more (λ (e : Entry). IfSome (first_or rest None) (IsBefore e.first)) (λ (e : Entry). holds_key s e.first ≡ false)
      (λ e h. not_early s e.first (subst (λ (o : Option Key). IfSome o (IsBefore e.first)) is h)) before (to_all before (first_or rest None) up)

  none_behind : (after : List Entry) → AscendTo after None → s.span.next ≡ first_or after None → AllByRecursion (λ e. holds_key s e.first ≡ false) after
  none_behind [] up is = tt
  none_behind (x ∷ after) up is =
      all_more (λ (e : Entry). ¬ (IsBefore e.first x.first)) (λ (e : Entry). holds_key s e.first ≡ false) (λ e h. not_late s e.first x.first is h) (x ∷ after) (from_all x after None up)

  all_inside : (middle : List Entry) → AscendTo middle s.span.next → first_or middle None ≡ Some s.span.first → AllByRecursion (λ e. holds_key s e.first ≡ true) middle
  all_inside [] up is = tt
  all_inside (x ∷ xs) up is =
      let begins : x.first ≡ s.span.first = cc in
      both_all (λ (e : Entry). ¬ (IsBefore e.first x.first)) (λ (e : Entry). IfSome s.span.next (IsBefore e.first)) (λ (e : Entry). holds_key s e.first ≡ true)
      (λ e from to. held_key s e.first (record { from = subst (λ (k : Key). ¬ (IsBefore e.first k)) begins from; to = to })) (x ∷ xs) (from_all x xs s.span.next up) (to_all (x ∷ xs) s.span.next up)

  first_of : (middle after : List Entry) → first_or middle None ≡ Some s.span.first → first_or (middle ++ after) None ≡ Some s.span.first
  first_of [] after is = cc
  first_of (x ∷ middle) after is = is

  slice_within : (before middle after : List Entry) → AscendTo (before ++ (middle ++ after)) None → first_or middle None ≡ Some s.span.first → s.span.next ≡ first_or after None
      → within s (regions_to last (before ++ (middle ++ after)) None) ≡ regions_to last middle s.span.next
  slice_within before middle after up is next_is =
      let test : Region → Bool = λ r. holds_key s r.first in
      let rest_up : AscendTo (middle ++ after) None = ascend_right before (middle ++ after) None up in
      let early : within s (regions_to last before (first_or (middle ++ after) None)) ≡ [] =
      none_in last s before (first_or (middle ++ after) None) (none_before before (middle ++ after) (ascend_left before (middle ++ after) None up) (first_of middle after is)) in
      let late : within s (regions_to last after None) ≡ [] = none_in last s after None (none_behind after (ascend_right middle after None rest_up) next_is) in
      let middle_up : AscendTo middle s.span.next = subst (λ (o : Option Key). AscendTo middle o) (sym next_is) (ascend_left middle after None rest_up) in
      let inside : within s (regions_to last middle s.span.next) ≡ regions_to last middle s.span.next = all_in last s middle s.span.next (all_inside middle middle_up is) in
      ap (λ (rs : List Region). within s rs) (regions_append last before (middle ++ after) None)
      ∙ filter-append (λ (r : Region). holds_key s r.first) (regions_to last before (first_or (middle ++ after) None)) (regions_to last (middle ++ after) None)
      ∙ ap (λ (rs : List Region). rs ++ within s (regions_to last (middle ++ after) None)) early
      ∙ ap (λ (rs : List Region). within s rs) (regions_append last middle after None)
      ∙ filter-append (λ (r : Region). holds_key s r.first) (regions_to last middle (first_or after None)) (regions_to last after None)
      ∙ ap (λ (rs : List Region). within s (regions_to last middle (first_or after None)) ++ rs) late
      ∙ append-nil (within s (regions_to last middle (first_or after None)))
      ∙ ap (λ (o : Option Key). within s (regions_to last middle o)) (sym next_is) ∙ inside

-- ---- the entries under a stretch, among all

record IsSlice (last : ℕ) (pages : List (List ℕ)) (whole : List Entry) (end : Option Key) (s : Stretch) : Type 0 where
  before : List Entry
  after : List Entry
  parts : whole ≡ before ++ (under pages s.level (entry_at s.span) ++ after)
  next_is : s.span.next ≡ first_or after end
  is : IsUnder last pages s.level (entry_at s.span) s.span.next

regroup : (u p m q v : List Entry) → u ++ ((p ++ (m ++ q)) ++ v) ≡ (u ++ p) ++ (m ++ (q ++ v))
regroup u p m q v =
    ap (λ (xs : List Entry). u ++ xs) (append_assoc p (m ++ q) v) ∙ (ap (λ (xs : List Entry). u ++ (p ++ xs)) (append_assoc m q v)
    ∙ sym (append_assoc u p (m ++ (q ++ v))))

module _ (last : ℕ) (pages : List (List ℕ)) where
  own_slice : (level : ℕ) (entry : Entry) (end : Option Key) → IsUnder last pages level entry end → IsSlice last pages (under pages level entry) end (stretch_of last level entry end)
  own_slice level entry end is = record { before = []; after = []; parts = sym (append-nil (under pages level entry)); next_is = refl; is = is }

  slice_at : (level : ℕ) (entry : Entry) (end : Option Key) (s : Stretch) → IsUnder last pages level entry end → ComesTo last pages level entry end s
      → IsSlice last pages (under pages level entry) end s
  slice_at zero entry end s is h = subst (λ (x : Stretch). IsSlice last pages (under pages zero entry) end x) (sym h) (own_slice zero entry end is)
  slice_at (suc level) entry end s is (inl h) = subst (λ (x : Stretch). IsSlice last pages (under pages (suc level) entry) end x) (sym h) (own_slice (suc level) entry end is)
  slice_at (suc level) entry end s is (inr (named, below, next, one, comes)) =
      let each : EachTo (IsUnder last pages level) (below ∷ one.after) end =
      each_right (IsUnder last pages level) one.before (below ∷ one.after) end (subst (λ (xs : List Entry). EachTo (IsUnder last pages level) xs end) one.parts is.1) in
      let there : IsUnder last pages level below next = subst (λ (o : Option Key). IsUnder last pages level below o) (sym one.next_is) each.0 in
      let in_it = slice_at level below next s there comes in
      let u : List Entry = flat_map (under pages level) one.before in
      let v : List Entry = flat_map (under pages level) one.after in
      record {
        before = u ++ in_it.before;
        after = in_it.after ++ v;
        parts = ap (λ (xs : List Entry). flat_map (under pages level) xs) one.parts
            ∙ (flat_map-append (under pages level) one.before (below ∷ one.after)
            ∙ (ap (λ (xs : List Entry). u ++ (xs ++ v)) in_it.parts ∙ regroup u in_it.before (under pages s.level (entry_at s.span)) in_it.after v));
        next_is = in_it.next_is
            ∙ (ap (λ (o : Option Key). first_or in_it.after o) (one.next_is ∙ rest_begins last pages level one.after end each.1) ∙ sym (first_append in_it.after v end));
        is = in_it.is;
      }

-- ---- of a list, by its places

module _ {X : Type 0} where
  contained_at : (xs : List X) (x : X) (found : Contains xs x) → slice_get xs found.0 ≡ Some x
  contained_at xs x found = slice_get_read xs (length xs) found.0 x refl found.1 (sym found.2)

  contains_at : (xs : List X) (i : ℕ) (x : X) → slice_get xs i ≡ Some x → Contains xs x
  contains_at xs i x at = (i, slice_get_within xs i x at, get_or_from_slice_get xs i x x at)

  all_at : (P : X → Type 0) (xs : List X) → ((i : ℕ) (x : X) → slice_get xs i ≡ Some x → P x) → AllByRecursion P xs
  all_at P [] f = tt
  all_at P (x ∷ xs) f = (f 0 x refl, all_at P xs (λ i y at. f (suc i) y at))

-- ---- regions of entries in order cover the addresses from the first one's to the end

abbrev pub Lies : Region → ℕ → Type 0
Lies r z = (r.from ≤ z) × (z ≤ r.to)

module _ (last : ℕ) where
  behind : (z y n : ℕ) → address_before y n < z → y ≤ z
  behind z y zero lt = omega arith
  behind z y (suc n) lt = omega arith

  covered : (x : Entry) (xs : List Entry) (end : Option Key) (z : ℕ) → x.first.z ≤ z → z ≤ end_before last end
      → (i : ℕ) × (r : Region) × (slice_get (regions_to last (x ∷ xs) end) i ≡ Some r) × Lies r z
  covered x [] end z from to = (0, region_of last x end, refl, (from, to))
  covered x (y ∷ ys) end z from to = elim (cases_lt (address_before y.first.z y.first.number) z) [
    | inl lt ↦
        let (i, r, at, lies) = covered y ys end z (behind z y.first.z y.first.number lt) to in
        (suc i, r, at, lies)
    | inr ge ↦ (0, region_of last x (Some y.first), refl, (from, ge))
  ]

  -- and no others
  begin_after : (x : Entry) (xs : List Entry) (end : Option Key) → AscendTo (x ∷ xs) end → (i : ℕ) (r : Region) → slice_get (regions_to last (x ∷ xs) end) i ≡ Some r → x.first.z ≤ r.from
  begin_after x xs end up zero r at =
      let same : region_of last x (first_or xs end) ≡ r = cc in
      let from : r.from ≡ x.first.z = ap (λ (q : Region). q.from) (sym same) in
      omega arith
  begin_after x [] end up (suc i) r at = cc
  begin_after x (y ∷ ys) end up (suc i) r at =
      let later = begin_after y ys end up.1 i r at in
      let le = begins_up_to y.first x.first (λ back. not_both_before x.first y.first up.0 back) in
      omega arith

  end_by : (xs : List Entry) (end : Option Key) → AscendTo xs end → AllByRecursion (IsEntry last) xs → (i : ℕ) (r : Region) → slice_get (regions_to last xs end) i ≡ Some r
      → r.to ≤ end_before last end
  end_by [] end up all i r at = cc
  end_by (x ∷ []) end up all zero r at =
      let same : region_of last x end ≡ r = cc in
      let to : r.to ≡ end_before last end = ap (λ (q : Region). q.to) (sym same) in
      omega arith
  end_by (x ∷ y ∷ xs) end up all zero r at =
      let same : region_of last x (Some y.first) ≡ r = cc in
      let to : r.to ≡ address_before y.first.z y.first.number = ap (λ (q : Region). q.to) (sym same) in
      let most = ends_up last y.first end (ascend_first y xs end up.1) all.1.0.z in
      omega arith
  end_by (x ∷ xs) end up all (suc i) r at = end_by xs end up.1 all.1 i r at

  -- both together, of entries that begin with a key
  lies_in : (xs : List Entry) (first : Key) (end : Option Key) (z : ℕ) → AscendTo xs end → AllByRecursion (IsEntry last) xs → first_or xs None ≡ Some first
      → ((first.z ≤ z) × (z ≤ end_before last end)) ↔ ((r : Region) × Contains (regions_to last xs end) r × Lies r z)
  lies_in [] first end z up all is = cc
  lies_in (x ∷ xs) first end z up all is =
      let begins : x.first ≡ first = cc in
      let low : x.first.z ≡ first.z = ap (λ (k : Key). k.z) begins in (
        λ h.
            let from = h.0 in
            let (i, r, at, lies) = covered x xs end z (omega arith) h.1 in
            (r, contains_at (regions_to last (x ∷ xs) end) i r at, lies),
        λ h.
            let at = contained_at (regions_to last (x ∷ xs) end) h.0 h.1 in
            let from = begin_after x xs end up h.1.0 h.0 at in
            let to = end_by (x ∷ xs) end up all h.1.0 h.0 at in
            let lies = h.2 in
            (omega arith, omega arith),
      )

-- ---- those of lists put together

module _ {Y : Type 0} (Q : Y → Type 0) where
  those_swap : (A B C : List Y) → ((ys : List Y) → AreThose Q B ys → AreThose Q C ys) → (ys : List Y) → AreThose Q (A ++ B) ys → AreThose Q (A ++ C) ys
  those_swap [] B C f ys are = f ys are
  those_swap (a ∷ A) B C f ys (inl (q, rest, is, more)) = inl (q, rest, is, those_swap A B C f rest more)
  those_swap (a ∷ A) B C f ys (inr (not, more)) = inr (not, those_swap A B C f ys more)

  those_skip : (A B : List Y) → AllByRecursion (λ y. ¬ (Q y)) A → (ys : List Y) → AreThose Q (A ++ B) ys → AreThose Q B ys
  those_skip [] B none ys are = are
  those_skip (a ∷ A) B none ys (inl (q, rest, is, more)) = absurd (none.0 q)
  those_skip (a ∷ A) B none ys (inr (not, more)) = those_skip A B none.1 ys more

  those_add : (A B : List Y) → AllByRecursion (λ y. ¬ (Q y)) A → (ys : List Y) → AreThose Q B ys → AreThose Q (A ++ B) ys
  those_add [] B none ys are = are
  those_add (a ∷ A) B none ys are = inr (none.0, those_add A B none.1 ys are)

  -- an element without the property has nothing with it
  those_flat : {X : Type 0} (P : X → Type 0) (W : X → List Y) (xs those : List X) → AreThose P xs those
      → AllByRecursion (λ x. ¬ (P x) → AllByRecursion (λ y. ¬ (Q y)) (W x)) xs → (ys : List Y) → AreThose Q (flat_map W xs) ys ↔ AreThose Q (flat_map W those) ys
  those_flat P W [] those are all ys = subst (λ (zs : List _). AreThose Q [] ys ↔ AreThose Q (flat_map W zs) ys) (sym are) (λ h. h, λ h. h)
  those_flat P W (x ∷ xs) those (inl (p, rest, is, more)) all ys =
      subst (λ (zs : List _). AreThose Q (W x ++ flat_map W xs) ys ↔ AreThose Q (flat_map W zs) ys) (sym is) (
        λ h. those_swap (W x) (flat_map W xs) (flat_map W rest) (λ zs k. (those_flat P W xs rest more all.1 zs).0 k) ys h,
        λ h. those_swap (W x) (flat_map W rest) (flat_map W xs) (λ zs k. (those_flat P W xs rest more all.1 zs).1 k) ys h,
      )
  those_flat P W (x ∷ xs) those (inr (not, are)) all ys = (
    λ h. (those_flat P W xs those are all.1 ys).0 (those_skip (W x) (flat_map W xs) (all.0 not) ys h),
    λ h. those_add (W x) (flat_map W xs) (all.0 not) ys ((those_flat P W xs those are all.1 ys).1 h),
  )

-- ---- the stretches of an index that stands

module _ (index : IndexView) (store : StoreFacts) (is : IsIndexOn index store) where
  abbrev spans : List Region
  spans = regions_of index.last (entries_in index store)

  abbrev entries_under : Stretch → List Entry
  entries_under s = under store.pages s.level (entry_at s.span)

  module _ (s : Stretch) (told : IsStretchOn index store s) where
    slice : IsSlice index.last store.pages (entries_in index store) None s
    slice = slice_at index.last store.pages index.levels (top index.root) None s is.under_it (told.way is.honest)

    -- an index stands under it
    pub stretch_under : IsUnder index.last store.pages s.level (entry_at s.span) s.span.next
    stretch_under = slice.is

    begins : first_or (entries_under s) None ≡ Some s.span.first
    begins = under_first index.last store.pages s.level (entry_at s.span) s.span.next stretch_under

    whole_up : AscendTo (slice.before ++ (entries_under s ++ slice.after)) None
    whole_up = subst (λ (xs : List Entry). AscendTo xs None) slice.parts (in_order index store is)

    entries_up : AscendTo (entries_under s) s.span.next
    entries_up =
        subst (λ (o : Option Key). AscendTo (entries_under s) o) (sym slice.next_is)
        (ascend_left (entries_under s) slice.after None (ascend_right slice.before (entries_under s ++ slice.after) None whole_up))

    entries_there : AllByRecursion (IsEntry index.last) (entries_under s)
    entries_there =
        all_left (IsEntry index.last) (entries_under s) slice.after
        (all_right (IsEntry index.last) slice.before (entries_under s ++ slice.after) (subst (λ (xs : List Entry). AllByRecursion (IsEntry index.last) xs) slice.parts (each_entry index store is)))

    -- the regions within it are those of the entries under it
    pub within_under : within s (regions_of index.last (entries_in index store)) ≡ regions_to index.last (entries_under s) s.span.next
    within_under =
        ap (λ (rs : List Region). within s rs) (regions_whole index.last (entries_in index store))
        ∙ (ap (λ (xs : List Entry). within s (regions_to index.last xs None)) slice.parts
        ∙ slice_within index.last s slice.before (entries_under s) slice.after whole_up begins slice.next_is)

    -- an address lies in it just where it lies in one of them
    pub stretch_covered : (z : ℕ) → Lies s.span z ↔ ((r : Region) × Contains (within s (regions_of index.last (entries_in index store))) r × Lies r z)
    stretch_covered z =
        let both : ((s.span.first.z ≤ z) × (z ≤ end_before index.last s.span.next)) ↔ ((r : Region) × Contains (regions_to index.last (entries_under s) s.span.next) r × Lies r z) =
        lies_in index.last (entries_under s) s.span.first s.span.next z entries_up entries_there begins in
        let from_is = told.from in
        let to_is = told.to in (
          λ h. let low = h.0 in let high = h.1 in
              subst (λ (rs : List Region). (r : Region) × Contains rs r × Lies r z) (sym within_under) (both.0 (omega arith, omega arith)),
          λ h. let back = both.1 (subst (λ (rs : List Region). (r : Region) × Contains rs r × Lies r z) within_under h) in
              let low = back.0 in let high = back.1 in (omega arith, omega arith),
        )

    pub lowest_one : s.level ≡ 0 → within s (regions_of index.last (entries_in index store)) ≡ s.span ∷ []
    lowest_one low =
        within_under ∙ (ap (λ (n : ℕ). regions_to index.last (under store.pages n (entry_at s.span)) s.span.next) low
        ∙ ap (λ (r : Region). r ∷ []) (sym (with_span index.last s.span told.from told.to)))

    -- none of them meets the boxes where it doesn't
    none_meet : (boxes : List Corners) → ¬ (MeetsAny boxes s) → AllByRecursion (λ r. ¬ (Meets boxes r)) (within s (regions_of index.last (entries_in index store)))
    none_meet boxes not =
        all_at (λ (r : Region). ¬ (Meets boxes r)) (within s (regions_of index.last (entries_in index store))) (λ i r at (z, inside, from, to).
        let lies = (stretch_covered z).1 (r, contains_at (within s (regions_of index.last (entries_in index store))) i r at, (from, to)) in
        not (z, inside, lies.0, lies.1))

    pub some_meets : (boxes : List Corners) → MeetsAny boxes s → (r : Region) × Contains (within s (regions_of index.last (entries_in index store))) r × Meets boxes r
    some_meets boxes (z, inside, from, to) =
        let (r, there, lies) = (stretch_covered z).0 (from, to) in
        (r, there, (z, inside, lies.0, lies.1))

  pub whole_within : within (whole_stretch index) (regions_of index.last (entries_in index store)) ≡ regions_of index.last (entries_in index store)
  whole_within = within_under (whole_stretch index) (whole_told index store) ∙ sym (regions_whole index.last (entries_in index store))

  -- the regions of what entries lead to are those within their stretches, one after the other
  regions_through : (level : ℕ) (xs : List Entry) (end : Option Key) → EachTo (IsUnder index.last store.pages level) xs end
      → ((below : Entry) (next : Option Key) → IsOneOf xs end below next → IsStretchOn index store (stretch_of index.last level below next))
      → regions_to index.last (flat_map (under store.pages level) xs) end ≡ flat_map (λ p. within p (regions_of index.last (entries_in index store))) (stretches_to index.last level xs end)
  regions_through level [] end each told = refl
  regions_through level (x ∷ xs) end each told =
      let own : within (stretch_of index.last level x (first_or xs end)) (regions_of index.last (entries_in index store)) ≡ regions_to index.last (under store.pages level x) (first_or xs end) =
      within_under (stretch_of index.last level x (first_or xs end)) (told x (first_or xs end) (record { before = []; after = xs; parts = refl; next_is = refl })) in
      let more = regions_through level xs end each.1 (λ below next one. told below next (record {
        before = x ∷ one.before;
        after = one.after;
        parts = ap (λ (ys : List Entry). x ∷ ys) one.parts;
        next_is = one.next_is;
      })) in
      regions_append index.last (under store.pages level x) (flat_map (under store.pages level) xs) end
      ∙ (ap (λ (o : Option Key). regions_to index.last (under store.pages level x) o ++ regions_to index.last (flat_map (under store.pages level) xs) end)
      (sym (rest_begins index.last store.pages level xs end each.1))
      ∙ (ap (λ (rs : List Region). rs ++ regions_to index.last (flat_map (under store.pages level) xs) end) (sym own)
      ∙ ap (λ (rs : List Region). within (stretch_of index.last level x (first_or xs end)) (regions_of index.last (entries_in index store)) ++ rs) more))

  module _ (boxes : List Corners) (s : Stretch) (parts : List Stretch) (told : IsStretchOn index store s) (are : ArePartsOn index store boxes s parts) where
    abbrev below_level : ℕ
    below_level = s.level - 1

    abbrev page_entries : List Entry
    page_entries = (node_on are.page).entries

    page_here : page_entries ≡ entries_of store.pages s.span.page
    page_here = ap (λ (p : List ℕ). (node_on p).entries) (are.there is.honest)

    higher : s.level ≡ suc (s.level - 1)
    higher = let some = some_level index store boxes s parts are in omega arith

    under_parts : IsUnder index.last store.pages (suc (s.level - 1)) (entry_at s.span) s.span.next
    under_parts = subst (λ (n : ℕ). IsUnder index.last store.pages n (entry_at s.span) s.span.next) higher (stretch_under s told)

    each_part : EachTo (IsUnder index.last store.pages (s.level - 1)) page_entries s.span.next
    each_part = subst (λ (xs : List Entry). EachTo (IsUnder index.last store.pages (s.level - 1)) xs s.span.next) (sym page_here) under_parts.1

    all_within : within s (regions_of index.last (entries_in index store))
        ≡ flat_map (λ p. within p (regions_of index.last (entries_in index store))) (parts_on index.last s are.page)
    all_within =
        within_under s told ∙ (ap (λ (n : ℕ). regions_to index.last (under store.pages n (entry_at s.span)) s.span.next) higher
        ∙ (ap (λ (xs : List Entry). regions_to index.last (flat_map (under store.pages (s.level - 1)) xs) s.span.next) (sym page_here)
        ∙ regions_through (s.level - 1) page_entries s.span.next each_part (λ below next one. part_told index store boxes s parts are told below next one)))

    no_part_meets : (xs : List Stretch) → AllByRecursion (IsStretchOn index store) xs
        → AllByRecursion (λ p. ¬ (MeetsAny boxes p) → AllByRecursion (λ r. ¬ (Meets boxes r)) (within p (regions_of index.last (entries_in index store)))) xs
    no_part_meets [] all = tt
    no_part_meets (p ∷ xs) all = (λ not. none_meet p all.0 boxes not, no_part_meets xs all.1)

    pub parts_cover : (met : List Region) → AreThose (Meets boxes) (within s (regions_of index.last (entries_in index store))) met
        ↔ AreThose (Meets boxes) (flat_map (λ part. within part (regions_of index.last (entries_in index store))) parts) met
    parts_cover met =
        subst (λ (rs : List Region). AreThose (Meets boxes) rs met ↔ AreThose (Meets boxes) (flat_map (λ part. within part (regions_of index.last (entries_in index store))) parts) met) (sym all_within)
        (those_flat (Meets boxes) (MeetsAny boxes) (λ part. within part (regions_of index.last (entries_in index store))) (parts_on index.last s are.page) parts are.those
        (no_part_meets (parts_on index.last s are.page) (all_told)) met)
      where
        all_told : AllByRecursion (IsStretchOn index store) (parts_on index.last s are.page)
        all_told = parts_all_told index store boxes s parts are told
