-- The parts of a stretch over any tree: how many there are, which addresses lie in them, and that none is passed over.
use Rattle.std.proofs.Common.{◌≡◌, ◌≤◌, ◌+◌, ◌-◌, inl, inr, ℕ, zero, suc, List, [], ◌∷◌, Option, Some, None, IfSome, slice_get, ◌∙◌, ap, subst, refl, arith}
use Rattle.ub_tree.proofs.Common.{AllByRecursion, AreThose, ascend_first, AscendTo, before_of, cases_Bool, end_before, Entry, first_or, HoldsKey, IsBefore}
use Rattle.ub_tree.proofs.Common.{IsEntry, Key, LiesIn, MeetsAny, node_on, not_both_before, parts_on, PartsAreBelow, PartsHold, PartsLieIn, precedes}
use Rattle.ub_tree.proofs.Common.{precedes_of, Stretch, stretch_of, stretches_each, stretches_to, those_each, those_few}
use Rattle.ub_index.proofs.StretchSteps.{begins_up_to, ends_from, ends_up, stretches_long}
use Rattle.ub_tree.proofs.MeetFacts.{contains_at}

pub parts_are_below : PartsAreBelow
parts_are_below t boxes s parts some are =
    let page = are.are.page in (
      those_each (MeetsAny boxes) (λ part. s.level ≡ part.level + 1) (λ part. s.level ≡ part.level + 1) (λ part h meets. h) (parts_on t.inner.index.last s page) parts are.are.those
          (stretches_each (λ part. s.level ≡ part.level + 1) t.inner.index.last (s.level - 1) (node_on page).entries s.span.next (λ below next one. let up = some in omega arith)),
      let few = those_few (MeetsAny boxes) (parts_on t.inner.index.last s page) parts are.are.those in
          let long = stretches_long t.inner.index.last (s.level - 1) (node_on page).entries s.span.next in
          let most = are.are.fits.is.is.few in
          omega arith,
    )

-- ---- which addresses lie in the stretches of entries in order

module _ (last level : ℕ) where
  all_lie : (xs : List Entry) (first : Key) (end : Option Key) → AscendTo xs end → AllByRecursion (IsEntry last) xs → ((x : Entry) (rest : List Entry) → xs ≡ x ∷ rest → first.z ≤ x.first.z)
      → AllByRecursion (λ p. (z : ℕ) → LiesIn p.span z → (first.z ≤ z) × (z ≤ end_before last end)) (stretches_to last level xs end)
  all_lie [] first end up all low = tt
  all_lie (x ∷ []) first end up all low = ((λ z lies. let le = low x [] refl in let from = lies.0 in let to = lies.1 in (omega arith, omega arith)), tt)
  all_lie (x ∷ y ∷ ys) first end up all low = (
    (λ z lies.
        let le = low x (y ∷ ys) refl in
        let from = lies.0 in
        let to = lies.1 in
        let most = ends_up last y.first end (ascend_first y ys end up.1) all.1.0.z in
        (omega arith, omega arith)),
    all_lie (y ∷ ys) first end up.1 all.1 (λ w rest e.
        let same : y ≡ w = cc in
        let le = low x (y ∷ ys) refl in
        let later = begins_up_to y.first x.first (λ back. not_both_before x.first y.first up.0 back) in
        subst (λ (d : Entry). first.z ≤ d.first.z) same (omega arith)),
  )

pub parts_lie_in : PartsLieIn
parts_lie_in t boxes s parts told are =
    let page = are.are.page in
    let from_is = told.is.from in
    let to_is = told.is.to in
    those_each (MeetsAny boxes) (λ part. (z : ℕ) → LiesIn part.span z → (s.span.first.z ≤ z) × (z ≤ end_before t.inner.index.last s.span.next)) (λ part. (z : ℕ) → LiesIn part.span z → LiesIn s.span z)
    (λ part h meets z lies. let both = h z lies in let low = both.0 in let high = both.1 in (omega arith, omega arith)) (parts_on t.inner.index.last s page) parts are.are.those
    (all_lie t.inner.index.last (s.level - 1) (node_on page).entries s.span.first s.span.next are.are.fits.ascends are.are.fits.is.is.entries (λ x rest e.
    let begins : first_or (node_on page).entries None ≡ Some s.span.first = are.are.fits.begins in
    let here : Some x.first ≡ Some s.span.first = subst (λ (xs : List Entry). first_or xs None ≡ Some s.span.first) e begins in
    let same : x.first ≡ s.span.first = cc in
    let z_is = ap (λ (k : Key). k.z) same in
    omega arith))

-- ---- the one that holds a key

module _ (last level : ℕ) (key : Key) (upto : key.z ≤ last) where
  -- of the stretches of entries from a key that isn't after it one holds it, and its address lies there
  hold_in : (xs : List Entry) (first : Key) (end : Option Key) → first_or xs None ≡ Some first → ¬ (IsBefore key first) → IfSome end (IsBefore key)
      → (i : ℕ) × (p : Stretch) × (slice_get (stretches_to last level xs end) i ≡ Some p) × HoldsKey key p.span.first p.span.next × LiesIn p.span key.z
  hold_in [] first end begins from to = cc
  hold_in (x ∷ []) first end begins from to =
      let same : first ≡ x.first = cc in
      let own : ¬ (IsBefore key x.first) = subst (λ (k : Key). ¬ (IsBefore key k)) same from in
      (0, stretch_of last level x end, refl, record { from = own; to = to }, (begins_up_to key x.first own, ends_from last key end to upto))
  hold_in (x ∷ y ∷ ys) first end begins from to =
      let same : first ≡ x.first = cc in
      let own : ¬ (IsBefore key x.first) = subst (λ (k : Key). ¬ (IsBefore key k)) same from in
      elim (cases_Bool (precedes key y.first)) [
        | inl t ↦
            let before : IsBefore key y.first = before_of key y.first t in
            (0, stretch_of last level x (Some y.first), refl, record { from = own; to = before }, (begins_up_to key x.first own, ends_from last key (Some y.first) before upto))
        | inr f ↦
            let later : ¬ (IsBefore key y.first) = λ yes. let t = precedes_of key y.first yes in cc in
            let (i, p, at, holds, lies) = hold_in (y ∷ ys) y.first end refl later to in
            (suc i, p, at, holds, lies)
      ]

-- of those that have a property is each element that has it
those_have : {X : Type 0} (P : X → Type 0) (xs those : List X) → AreThose P xs those → (i : ℕ) (x : X) → slice_get xs i ≡ Some x → P x → (j : ℕ) × (slice_get those j ≡ Some x)
those_have P [] those are i x at has = cc
those_have P (y ∷ xs) those (inl (p, rest, is, more)) zero x at has =
    let same : y ≡ x = cc in
    (0, ap (λ zs. slice_get zs 0) is ∙ ap (λ z. Some z) same)
those_have P (y ∷ xs) those (inl (p, rest, is, more)) (suc i) x at has =
    let (j, there) = those_have P xs rest more i x at has in
    (suc j, ap (λ zs. slice_get zs (suc j)) is ∙ there)
those_have P (y ∷ xs) those (inr (not, are)) zero x at has = let same : x ≡ y = cc in absurd (not (subst P same has))
those_have P (y ∷ xs) those (inr (not, are)) (suc i) x at has = those_have P xs those are i x at has

pub parts_hold : PartsHold
parts_hold t boxes s parts key told are inside upto holds =
    let page = are.are.page in
    let (i, p, at, in_it, lies) = hold_in t.inner.index.last (s.level - 1) key upto (node_on page).entries s.span.first s.span.next are.are.fits.begins holds.from holds.to in
    let (j, there) = those_have (MeetsAny boxes) (parts_on t.inner.index.last s page) parts are.are.those i p at (key.z, inside, lies.0, lies.1) in
    (p, contains_at parts j p there, in_it)
