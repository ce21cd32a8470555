-- The parts of a stretch along its page: the one in a slot, the next one that meets some boxes, and those that were handed over.
use Rattle.std.proofs.Common.{rules, ◌≡◌, ◌≤◌, ◌<◌, ◌+◌, ◌-◌, ◌++◌, ◌⊎◌, inl, inr, ℕ, zero, suc, List, [], ◌∷◌, Option, Some, None, IfSome, Result, Err, length, drop, slice_get, ◌∙◌, sym, ap, subst, refl, arith, append_assoc, append-nil}
use Rattle.ub_index.proofs.Common.{address_before, AllByRecursion, AreThose, ascend_first, AscendTo, before_parts, before_trans, BringsFitting, cases_eq}
use Rattle.ub_index.proofs.Common.{cases_lt, Corners, end_before, Entry, entry_at, entry_in, first_in, first_or, HoldsAny, IndexFault, IndexView, IsBefore}
use Rattle.ub_index.proofs.Common.{IsEntry, IsErrAnd, IsNextMeeting, IsSlot, Key, le_trans, LeastFrom, length-node_on, MeetsAny, node_get, node_on}
use Rattle.ub_index.proofs.Common.{not_before_self, not_both_before, number_at, OpensStretch, PagerView, parts_on, Region, region_of, slice_get_within, Stretch}
use Rattle.ub_index.proofs.Common.{stretch_of, stretches_to, TakesThese}
use Rattle.ub_index.proofs.FitFacts.{after_first, after_none}
use Rattle.ub_index.proofs.SearchFacts.{err_is}
use Rattle.ub_index.proofs.StepFacts.{step_misfits}

-- the key of an address that none is before
abbrev pub lowest : ℕ → Key
lowest z = record { z = z; number = 0 }

-- ---- keys and where a span ends before them

up_to : (kz kn z n : ℕ) → (kz < z) ⊎ ((kz ≡ z) × (kn < n)) → kz ≤ address_before z n
up_to kz kn z n h = search rules

-- a key before the next one has an address of the span
pub ends_from : (last : ℕ) (key : Key) (next : Option Key) → IfSome next (IsBefore key) → key.z ≤ last → key.z ≤ end_before last next
ends_from last key None before le = le
ends_from last key (Some next) before le = up_to key.z key.number next.z next.number (before_parts key next before)

pub begins_up_to : (key first : Key) → ¬ (IsBefore key first) → first.z ≤ key.z
begins_up_to key first h = search rules

-- where a key isn't before that of an address, that address isn't of a span which ends before it
pub ends_below : (z : ℕ) (first next : Key) → IsBefore first next → ¬ (IsBefore (lowest z) next) → address_before next.z next.number < z
ends_below z first next up not = below next.z next.number (some (before_parts first next up)) (upto not)
  where
    some : (first.z < next.z) ⊎ ((first.z ≡ next.z) × (first.number < next.number)) → (0 < next.z) ⊎ (0 < next.number)
    some (inl lt) = inl (omega arith)
    some (inr both) = let lt = both.1 in inr (omega arith)

    upto : ¬ (IsBefore (lowest z) next) → (next.z < z) ⊎ ((next.z ≡ z) × (next.number ≡ 0))
    upto not = search rules

    below : (y n : ℕ) → (0 < y) ⊎ (0 < n) → (y < z) ⊎ ((y ≡ z) × (n ≡ 0)) → address_before y n < z
    below y zero (inl lt) (inl less) = omega arith
    below y zero (inl lt) (inr both) = let same = both.0 in omega arith
    below y zero (inr lt) h = absurd (omega arith)
    below y (suc n) lt (inl less) = less
    below y (suc n) lt (inr both) = let none = both.1 in absurd (omega arith)

-- and it is no later than where one ends before a later key
pub ends_up : (last : ℕ) (key : Key) (end : Option Key) → IfSome end (IsBefore key) → key.z ≤ last → address_before key.z key.number ≤ end_before last end
ends_up last key end before le =
    let most = ends_from last key end before le in
    let less = at_most key.z key.number in
    omega arith
  where
    at_most : (y n : ℕ) → address_before y n ≤ y
    at_most y zero = omega arith
    at_most y (suc n) = omega arith

-- ---- entries in order, by their places

ahead : (x : Entry) (xs : List Entry) (end : Option Key) → AscendTo (x ∷ xs) end → (j : ℕ) (b : Entry) → slice_get xs j ≡ Some b → IsBefore x.first b.first
ahead x [] end up j b at = cc
ahead x (y ∷ ys) end up zero b at = let same : y ≡ b = cc in subst (λ (e : Entry). IsBefore x.first e.first) same up.0
ahead x (y ∷ ys) end up (suc j) b at = before_trans x.first y.first b.first up.0 (ahead y ys end up.1 j b at)

pub ascend_get : (xs : List Entry) (end : Option Key) → AscendTo xs end → (i j : ℕ) (a b : Entry) → i < j → slice_get xs i ≡ Some a → slice_get xs j ≡ Some b → IsBefore a.first b.first
ascend_get [] end up i j a b lt at_i at_j = cc
ascend_get (x ∷ xs) end up i zero a b lt at_i at_j = absurd (omega arith)
ascend_get (x ∷ xs) end up zero (suc j) a b lt at_i at_j = let same : x ≡ a = cc in subst (λ (e : Entry). IsBefore e.first b.first) same (ahead x xs end up j b at_j)
ascend_get (x ∷ xs) end up (suc i) (suc j) a b lt at_i at_j = ascend_get xs end up.1 i j a b (omega arith) at_i at_j

pub ascend_upto : (xs : List Entry) (end : Option Key) → AscendTo xs end → (i j : ℕ) (a b : Entry) → i ≤ j → slice_get xs i ≡ Some a → slice_get xs j ≡ Some b → ¬ (IsBefore b.first a.first)
ascend_upto xs end up i j a b le at_i at_j = elim (cases_eq i j) [
  | inl e ↦
      let again : slice_get xs i ≡ Some b = ap (slice_get xs) e ∙ at_j in
      let same : a ≡ b = cc in
      subst (λ (x : Entry). ¬ (IsBefore b.first x.first)) (sym same) (not_before_self b.first)
  | inr ne ↦ λ back. not_both_before a.first b.first (ascend_get xs end up i j a b (omega arith) at_i at_j) back
]

module _ (last level : ℕ) where
  -- ---- the stretches of entries

  pub stretches_long : (xs : List Entry) (end : Option Key) → length (stretches_to last level xs end) ≡ length xs
  stretches_long [] end = refl
  stretches_long (x ∷ xs) end = ap suc (stretches_long xs end)

  pub stretch_get : (xs : List Entry) (end : Option Key) (i : ℕ) (e : Entry) → slice_get xs i ≡ Some e
      → slice_get (stretches_to last level xs end) i ≡ Some (stretch_of last level e (first_or (drop (suc i) xs) end))
  stretch_get [] end i e at = cc
  stretch_get (x ∷ xs) end zero e at = let same : x ≡ e = cc in ap (λ (y : Entry). Some (stretch_of last level y (first_or xs end))) same
  stretch_get (x ∷ xs) end (suc i) e at = stretch_get xs end i e at

  pub stretch_at : (xs : List Entry) (end : Option Key) (i : ℕ) (p : Stretch) → slice_get (stretches_to last level xs end) i ≡ Some p
      → (e : Entry) × (slice_get xs i ≡ Some e) × (p ≡ stretch_of last level e (first_or (drop (suc i) xs) end))
  stretch_at [] end i p at = cc
  stretch_at (x ∷ xs) end zero p at = let same : stretch_of last level x (first_or xs end) ≡ p = cc in (x, refl, sym same)
  stretch_at (x ∷ xs) end (suc i) p at = stretch_at xs end i p at

  -- ---- where their spans begin and end

  from_up : (xs : List Entry) (end : Option Key) → AscendTo xs end → (i j : ℕ) (a b : Stretch) → i ≤ j
      → slice_get (stretches_to last level xs end) i ≡ Some a → slice_get (stretches_to last level xs end) j ≡ Some b → a.span.from ≤ b.span.from
  from_up xs end up i j a b le at_i at_j =
      let (d, at_d, is_a) = stretch_at xs end i a at_i in
      let (e, at_e, is_b) = stretch_at xs end j b at_j in
      let upto = begins_up_to e.first d.first (ascend_upto xs end up i j d e le at_d at_e) in
      let from_a : a.span.from ≡ d.first.z = ap (λ (s : Stretch). s.span.from) is_a in
      let from_b : b.span.from ≡ e.first.z = ap (λ (s : Stretch). s.span.from) is_b in
      omega arith

  from_to : (xs : List Entry) (end : Option Key) → AscendTo xs end → AllByRecursion (IsEntry last) xs → (i : ℕ) (p : Stretch)
      → slice_get (stretches_to last level xs end) i ≡ Some p → p.span.from ≤ p.span.to
  from_to [] end up all i p at = cc
  from_to (x ∷ xs) end up all zero p at =
      let same : stretch_of last level x (first_or xs end) ≡ p = cc in
      subst (λ (s : Stretch). s.span.from ≤ s.span.to) same (ends_from last x.first (first_or xs end) up.0 all.0.z)
  from_to (x ∷ xs) end up all (suc i) p at = from_to xs end up.1 all.1 i p at

  to_max : (xs : List Entry) (end : Option Key) → AscendTo xs end → AllByRecursion (IsEntry last) xs → (i : ℕ) (p : Stretch)
      → slice_get (stretches_to last level xs end) i ≡ Some p → p.span.to ≤ end_before last end
  to_max [] end up all i p at = cc
  to_max (x ∷ []) end up all zero p at =
      let same : stretch_of last level x end ≡ p = cc in
      let to : p.span.to ≡ end_before last end = ap (λ (s : Stretch). s.span.to) (sym same) in
      omega arith
  to_max (x ∷ y ∷ xs) end up all zero p at =
      let same : stretch_of last level x (Some y.first) ≡ p = cc in
      let to : p.span.to ≡ address_before y.first.z y.first.number = ap (λ (s : Stretch). s.span.to) (sym same) in
      let most = ends_up last y.first end (ascend_first y xs end up.1) all.1.0.z in
      omega arith
  to_max (x ∷ xs) end up all (suc i) p at = to_max xs end up.1 all.1 i p at

  -- a span that is followed by an entry which begins up to an address ends before that
  to_before : (xs : List Entry) (end : Option Key) → AscendTo xs end → (z i j : ℕ) (p : Stretch) (e : Entry) → i < j
      → slice_get (stretches_to last level xs end) i ≡ Some p → slice_get xs j ≡ Some e → ¬ (IsBefore (lowest z) e.first) → p.span.to < z
  to_before [] end up z i j p e lt at_i at_j not = cc
  to_before (x ∷ xs) end up z i zero p e lt at_i at_j not = absurd (omega arith)
  to_before (x ∷ []) end up z zero (suc j) p e lt at_i at_j not = cc
  to_before (x ∷ y ∷ xs) end up z zero (suc j) p e lt at_i at_j not =
      let same : stretch_of last level x (Some y.first) ≡ p = cc in
      let to : p.span.to ≡ address_before y.first.z y.first.number = ap (λ (s : Stretch). s.span.to) (sym same) in
      let upto : ¬ (IsBefore e.first y.first) = ascend_upto (y ∷ xs) end up.1 0 j y e (omega arith) refl at_j in
      let less = ends_below z x.first y.first up.0 (le_trans y.first e.first (lowest z) upto not) in
      omega arith
  to_before (x ∷ xs) end up z (suc i) (suc j) p e lt at_i at_j not = to_before xs end up.1 z i j p e (omega arith) at_i at_j not

-- ---- the part in a slot

abbrev with_span : Region → ℕ → Stretch
with_span span level = record { span = span; level = level }

pub part_is : (last : ℕ) (s : Stretch) (page : List ℕ) (count slot : ℕ) (entry : Entry) (next : Option Key) (span : Region) → count ≡ number_at 2 2 page → slot < count
    → entry ≡ entry_in slot page → next ≡ first_or (drop (slot + 1) (node_on page).entries) s.span.next → span ≡ region_of last entry next
    → slice_get (parts_on last s page) slot ≡ Some (with_span span (s.level - 1))
part_is last s page count slot entry next span same lt entry_is next_is span_is =
    let one : slot + 1 ≡ suc slot = omega arith in
    let whole : span ≡ region_of last (entry_in slot page) (first_or (drop (suc slot) (node_on page).entries) s.span.next) =
    span_is ∙ (ap (λ (e : Entry). region_of last e next) entry_is
    ∙ ap (λ (o : Option Key). region_of last (entry_in slot page) o) (next_is ∙ ap (λ (i : ℕ). first_or (drop i (node_on page).entries) s.span.next) one)) in
    stretch_get last (s.level - 1) (node_on page).entries s.span.next slot (entry_in slot page) (node_get page slot (omega arith))
    ∙ ap (λ (r : Region). Some (with_span r (s.level - 1))) (sym whole)

-- ---- the next part that meets some boxes

module _ (boxes : List Corners) (last level : ℕ) (page : List ℕ) (count : ℕ) (same : count ≡ number_at 2 2 page) (end : Option Key)
    (up : AscendTo (node_on page).entries end) (all : AllByRecursion (IsEntry last) (node_on page).entries) (from : ℕ) where
  abbrev xs : List Entry
  xs = (node_on page).entries

  abbrev parts : List Stretch
  parts = stretches_to last level (node_on page).entries end

  pub none_behind : count ≤ from → IsNextMeeting boxes parts from None
  none_behind far m part le at =
      let near = slice_get_within parts m part at in
      absurd (omega (arith, stretches_long last level xs end, length-node_on page))

  module _ (first : Stretch) (here : slice_get parts from ≡ Some first) where
    -- a later part that meets the boxes does so from their least address on
    met_from : (z : ℕ) → LeastFrom (HoldsAny boxes) first.span.from (Some z) → (m : ℕ) (part : Stretch) → from ≤ m → slice_get parts m ≡ Some part → MeetsAny boxes part → z ≤ part.span.to
    met_from z least m part le at (y, inside, begins, ends) =
        let later = from_up last level xs end up from m first part le here at in
        let most : z ≤ y = least.2 y inside (omega arith) in
        omega arith

    pub none_left : LeastFrom (HoldsAny boxes) first.span.from None → IsNextMeeting boxes parts from None
    none_left none m part le at (y, inside, begins, ends) =
        let later = from_up last level xs end up from m first part le here at in
        let less : y < first.span.from = none y inside in
        absurd (omega arith)

    pub none_found : (found : Option ℕ) → ((z : ℕ) → found ≡ Some z → ⊥) → LeastFrom (HoldsAny boxes) first.span.from found → IsNextMeeting boxes parts from None
    none_found None never none = none_left none
    none_found (Some z) never least = absurd (never z refl)

    module _ (z : ℕ) (least : LeastFrom (HoldsAny boxes) first.span.from (Some z)) where
      pub meets_here : z ≤ first.span.to → IsNextMeeting boxes parts from (Some from)
      meets_here le = (omega arith, first, here, (z, least.0, least.1, le), λ m other begun less at. absurd (omega arith))

      pub none_later : end_before last end < z → IsNextMeeting boxes parts from None
      none_later far m part le at met =
          let near = met_from z least m part le at met in
          let most = to_max last level xs end up all m part at in
          absurd (omega arith)

      pub meets_later : first.span.to < z → z ≤ end_before last end → (slot : ℕ) → IsSlot (lowest z) count page slot → IsNextMeeting boxes parts from (Some slot)
      meets_later past near slot is = (
        later,
        part,
        part_is,
        (z, least.0, begins, ends),
        λ m other begun less at met.
            let le = met_from z least m other begun at met in
            let before = to_before last level xs end up z m slot other (entry_in slot page) less at entry_is (is.begun (omega arith)) in
            absurd (omega arith),
      )
        where
          inside : slot < number_at 2 2 page
          inside = let lt = is.within in omega arith

          entry_is : slice_get xs slot ≡ Some (entry_in slot page)
          entry_is = node_get page slot inside

          part : Stretch
          part = stretch_of last level (entry_in slot page) (first_or (drop (suc slot) xs) end)

          part_is : slice_get parts slot ≡ Some part
          part_is = stretch_get last level xs end slot (entry_in slot page) entry_is

          later : from ≤ slot
          later = elim (cases_lt slot from) [
            | inl lt ↦
                let (e, at, is_first) = stretch_at last level xs end from first here in
                let near = slice_get_within xs from e at in
                let next_is : slice_get xs (slot + 1) ≡ Some (entry_in (slot + 1) page) = node_get page (slot + 1) (omega (arith, length-node_on page)) in
                let upto : ¬ (IsBefore e.first (first_in (slot + 1) page)) = ascend_upto xs end up (slot + 1) from (entry_in (slot + 1) page) e (omega arith) next_is at in
                let next : IsBefore (lowest z) (first_in (slot + 1) page) = is.next (omega (arith, length-node_on page)) in
                let begun : first.span.from ≡ e.first.z = ap (λ (s : Stretch). s.span.from) is_first in
                let low : z ≤ (first_in (slot + 1) page).z = address_le (lowest z) (first_in (slot + 1) page) next in
                let high : (first_in (slot + 1) page).z ≤ e.first.z = begins_up_to e.first (first_in (slot + 1) page) upto in
                let whole = from_to last level xs end up all from first here in
                absurd (omega arith)
            | inr ge ↦ ge
          ]
            where
              address_le : (a b : Key) → IsBefore a b → a.z ≤ b.z
              address_le a b h = elim (before_parts a b h) [
                | inl lt ↦ omega arith
                | inr both ↦ let e = both.0 in omega arith
              ]

          begins : part.span.from ≤ z
          begins = elim (cases_eq from slot) [
            | inl e ↦
                let again : slice_get parts from ≡ Some part = ap (slice_get parts) e ∙ part_is in
                let one : first ≡ part = cc in
                let same_from : first.span.from ≡ part.span.from = ap (λ (s : Stretch). s.span.from) one in
                let low = least.1 in
                omega arith
            | inr ne ↦ let low = later in begins_up_to (lowest z) (first_in slot page) (is.begun (omega arith))
          ]

          ends : z ≤ part.span.to
          ends = elim (cases_lt (slot + 1) count) [
            | inl lt ↦
                let next : Some (first_in (slot + 1) page) ≡ first_or (drop (suc slot) xs) end = after_first page (slot + 1) end (omega arith) ∙ ap (λ (i : ℕ). first_or (drop i xs) end) one in
                subst (λ (o : Option Key). z ≤ end_before last o) next
                (up_to z 0 (first_in (slot + 1) page).z (first_in (slot + 1) page).number (before_parts (lowest z) (first_in (slot + 1) page) (is.next lt)))
            | inr ge ↦
                let next : end ≡ first_or (drop (suc slot) xs) end = after_none page (slot + 1) end (omega arith) ∙ ap (λ (i : ℕ). first_or (drop i xs) end) one in
                subst (λ (o : Option Key). z ≤ end_before last o) next near
          ]
            where
              one : slot + 1 ≡ suc slot
              one = omega arith

-- a part that stands in a slot is one of so many
pub slot_within : (last : ℕ) (s : Stretch) (page : List ℕ) (count slot : ℕ) (part : Stretch) → count ≡ number_at 2 2 page → slice_get (parts_on last s page) slot ≡ Some part → slot < count
slot_within last s page count slot part same at =
    let near = slice_get_within (parts_on last s page) slot part at in
    omega (arith, stretches_long last (s.level - 1) (node_on page).entries s.span.next, length-node_on page)

pub none_next : (boxes : List Corners) (parts : List Stretch) (from : ℕ) (found : Option ℕ) → ((slot : ℕ) → found ≡ Some slot → ⊥) → IsNextMeeting boxes parts from found
    → (m : ℕ) (part : Stretch) → from ≤ m → slice_get parts m ≡ Some part → ¬ (MeetsAny boxes part)
none_next boxes all from None never h = h
none_next boxes all from (Some slot) never h = absurd (never slot refl)

-- ---- what was handed over

pub takes_more : {S X : Type 0} (Takes : S → List X → S → Type 0) (a b c : S) (some more : List X) → TakesThese Takes a b some → TakesThese Takes b c more
    → TakesThese Takes a c (some ++ more)
takes_more {X = X} Takes a b c some more h k start taken has =
    subst (λ (these : List X). Takes start these c) (append_assoc taken some more) (k start (taken ++ some) (h start taken has))

module _ {X : Type 0} (P : X → Type 0) where
  -- these are those that have the property of all before an index: with those of the rest they are those of all
  abbrev pub IsHandedTo : List X → ℕ → List X → Type 0
  IsHandedTo all behind handed = (more : List X) → AreThose P (drop behind all) more → AreThose P all (handed ++ more)

  those_none : (all : List X) (behind : ℕ) → ((m : ℕ) (x : X) → behind ≤ m → slice_get all m ≡ Some x → ¬ (P x)) → AreThose P (drop behind all) []
  those_none [] zero never = refl
  those_none [] (suc behind) never = refl
  those_none (x ∷ xs) zero never = inr (never 0 x (omega arith) refl, those_none xs zero (λ m y le at. never (suc m) y (omega arith) at))
  those_none (x ∷ xs) (suc behind) never = those_none xs behind (λ m y le at. never (suc m) y (omega arith) at)

  those_from : (all : List X) (behind slot : ℕ) (found : X) (more : List X) → behind ≤ slot → slice_get all slot ≡ Some found → P found
      → ((m : ℕ) (x : X) → behind ≤ m → m < slot → slice_get all m ≡ Some x → ¬ (P x)) → AreThose P (drop (suc slot) all) more → AreThose P (drop behind all) (found ∷ more)
  those_from [] behind slot found more le at has none rest = cc
  those_from (x ∷ xs) zero zero found more le at has none rest =
      let same : found ≡ x = cc in inl (subst P same has, more, ap (λ (y : X). y ∷ more) same, rest)
  those_from (x ∷ xs) zero (suc slot) found more le at has none rest =
      inr (none 0 x (omega arith) (omega arith) refl, those_from xs zero slot found more (omega arith) at has (λ m y begun less at_m. none (suc m) y (omega arith) (omega arith) at_m) rest)
  those_from (x ∷ xs) (suc behind) zero found more le at has none rest = absurd (omega arith)
  those_from (x ∷ xs) (suc behind) (suc slot) found more le at has none rest =
      those_from xs behind slot found more (omega arith) at has (λ m y begun less at_m. none (suc m) y (omega arith) (omega arith) at_m) rest

  pub handed_more : (all : List X) (behind slot : ℕ) (found : X) (handed : List X) → IsHandedTo all behind handed → behind ≤ slot → slice_get all slot ≡ Some found → P found
      → ((m : ℕ) (x : X) → behind ≤ m → m < slot → slice_get all m ≡ Some x → ¬ (P x)) → IsHandedTo all (slot + 1) (handed ++ found ∷ [])
  handed_more all behind slot found handed so_far le at has none more rest =
      let one : slot + 1 ≡ suc slot = omega arith in
      subst (λ (ys : List X). AreThose P all ys) (sym (append_assoc handed (found ∷ []) more))
      (so_far (found ∷ more) (those_from all behind slot found more le at has none (subst (λ (n : ℕ). AreThose P (drop n all) more) one rest)))

  pub handed_all : (all : List X) (behind : ℕ) (handed : List X) → IsHandedTo all behind handed → ((m : ℕ) (x : X) → behind ≤ m → slice_get all m ≡ Some x → ¬ (P x)) → AreThose P all handed
  handed_all all behind handed so_far never = subst (λ (ys : List X). AreThose P all ys) (append-nil handed) (so_far [] (those_none all behind never))

-- ---- a stretch isn't opened whose page isn't brought

pub opens_misfits : {S T : Type 0} (Takes : S → List Stretch → S → Type 0) (index : IndexView) (boxes : List Corners) (s : Stretch) (before after : S) (old new : PagerView)
    (r : Result T IndexFault) (e : IndexFault) → IsErrAnd r (λ x. x ≡ e) → BringsFitting index.last s.level (entry_at s.span) s.span.next old new (Err e)
    → OpensStretch Takes index boxes s before after old new r
opens_misfits {T = T} Takes index boxes s before after old new r e is h =
    subst (λ (x : Result T IndexFault). OpensStretch Takes index boxes s before after old new x) (sym (err_is r e is)) (record {
      parts = tt;
      forgotten = h.forgotten;
      others = h.others;
      steps = step_misfits index.last s.level (entry_at s.span) s.span.next old new (Err e) e refl h;
    })
