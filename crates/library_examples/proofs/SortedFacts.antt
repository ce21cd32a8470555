-- Which addresses of a sorted list lie in a box, up to a place.
use Rattle.std.proofs.Common.{Option, None, ◌+◌, ◌≡◌, ◌<◌, ◌≤◌, inl, inr, ℕ, zero, suc, List, [], ◌∷◌, ◌++◌, Some, length, take, ◌∙◌, sym, ap, refl, arith, slice_get, slice_index_or, subst}
use Rattle.std.proofs.Math.Seq.{take-suc}
use Rattle.std.proofs.lemmas.Bool.{cases_eq, cases_lt}
use Rattle.std.proofs.lemmas.Grind.{common_steps}
use Rattle.std.proofs.lemmas.Option.{get_or_from_slice_get, slice_get-get_or, slice_get_cases, slice_get_within}
use Rattle.std.specs.List.Sorted.{IsNonDecreasing, IsPartitionPoint}
use Rattle.ub_bigmin.specs.Box.{Corners, Holds}
use Rattle.ub_bigmin.specs.Extremes.{IsLeastFrom, LeastFrom}
use Rattle.library_examples.specs.Sorted.{AreThoseIn}

module _ (zbox : Corners) where
  -- one more address, in the box or not
  those_with : (zs found : List ℕ) (z : ℕ) → Holds zbox z → AreThoseIn zbox zs found → AreThoseIn zbox (zs ++ z ∷ []) (found ++ z ∷ [])
  those_with [] found z in_it are = inl (in_it, [], rw are refl, refl)
  those_with (y ∷ zs) found z in_it (inl are) =
      let (own, more, is, rest) = are in inl (own, more ++ z ∷ [], ap (λ (xs : List ℕ). xs ++ z ∷ []) is, those_with zs more z in_it rest)
  those_with (y ∷ zs) found z in_it (inr are) = inr (are.0, those_with zs found z in_it are.1)

  those_without : (zs found : List ℕ) (z : ℕ) → ¬ (Holds zbox z) → AreThoseIn zbox zs found → AreThoseIn zbox (zs ++ z ∷ []) found
  those_without [] found z out are = inr (out, are)
  those_without (y ∷ zs) found z out (inl are) = let (own, more, is, rest) = are in inl (own, more, is, those_without zs more z out rest)
  those_without (y ∷ zs) found z out (inr are) = inr (are.0, those_without zs found z out are.1)

  take_next : (zs : List ℕ) (k z : ℕ) → slice_get zs k ≡ Some z → take (suc k) zs ≡ take k zs ++ z ∷ []
  take_next zs k z at = take-suc zs k z (slice_get_within zs k z at) ∙ ap (λ (y : ℕ). take k zs ++ y ∷ []) (get_or_from_slice_get zs k z z at)

  -- none of the addresses from one place up to another lies in the box
  those_up_to : (zs found : List ℕ) (place i : ℕ) → place ≤ i → i ≤ length zs → ((m z : ℕ) → place ≤ m → m < i → slice_get zs m ≡ Some z → ¬ (Holds zbox z))
      → AreThoseIn zbox (take place zs) found → AreThoseIn zbox (take i zs) found
  those_up_to zs found place zero le within none are = let e : place ≡ 0 = omega arith in subst (λ (n : ℕ). AreThoseIn zbox (take n zs) found) e are
  those_up_to zs found place (suc i) le within none are = elim (cases_eq place (suc i)) [
    | inl e ↦ subst (λ (n : ℕ). AreThoseIn zbox (take n zs) found) e are
    | inr ne ↦
        let (z, at) = there zs i (omega arith) in
        let before = those_up_to zs found place i (omega arith) (omega arith) (λ m y from below. none m y from (omega arith)) are in
        subst (λ (ys : List ℕ). AreThoseIn zbox ys found) (sym (take_next zs i z at)) (those_without (take i zs) found z (none i z (omega arith) (omega arith) at) before)
  ] where
    there : (xs : List ℕ) (k : ℕ) → k < length xs → (x : ℕ) × (slice_get xs k ≡ Some x)
    there xs k below = elim ((slice_get_cases xs k).1) [
      | inl some ↦ (some.0, some.2)
      | inr past ↦ let far = past.0 in absurd (omega arith)
    ]

  -- all addresses were looked at
  pub whole : (zs found : List ℕ) (place : ℕ) → length zs ≤ place → AreThoseIn zbox (take place zs) found → AreThoseIn zbox zs found
  whole zs found place far = subst (λ (xs : List ℕ). AreThoseIn zbox xs found) (all place zs far)
    where
      all : (n : ℕ) (xs : List ℕ) → length xs ≤ n → take n xs ≡ xs
      all n xs h = grind (arith, common_steps)

  module _ (zs found : List ℕ) (up : IsNonDecreasing zs) (place z : ℕ) (at : slice_get zs place ≡ Some z) (those : AreThoseIn zbox (take place zs) found) where
    within : place < length zs
    within = slice_get_within zs place z at

    -- the address at the place lies in the box
    pub found_more : Holds zbox z → AreThoseIn zbox (take (suc place) zs) (found ++ z ∷ [])
    found_more in_it = subst (λ (ys : List ℕ). AreThoseIn zbox ys (found ++ z ∷ [])) (sym (take_next zs place z at)) (those_with (take place zs) found z in_it those)

    -- an address from the place on is at least that at the place
    no_less : (m y : ℕ) → place ≤ m → slice_get zs m ≡ Some y → z ≤ y
    no_less m y from there =
        let least = up place m 0 from (slice_get_within zs m y there) in
        rw (get_or_from_slice_get zs place z 0 at, get_or_from_slice_get zs m y 0 there) at least

    -- the box's next address is a later one, and stands at i or behind
    pub jumped : (next i : ℕ) → z < next → ((m : ℕ) → Holds zbox m → z ≤ m → next ≤ m) → i ≤ length zs
        → IsPartitionPoint (λ a. a < next) (λ a. next ≤ a) zs i → (place < i) × AreThoseIn zbox (take i zs) found
    jumped next i later least far point = (ahead, those_up_to zs found place i (omega (ahead, arith)) far none those)
      where
        ahead : place < i
        ahead = elim (cases_lt place i) [
          | inl lt ↦ lt
          | inr ge ↦
              let high = rw (get_or_from_slice_get zs place z 0 at) at (point.1 place 0 ge within) in absurd (omega arith)
        ]

        none : (m y : ℕ) → place ≤ m → m < i → slice_get zs m ≡ Some y → ¬ (Holds zbox y)
        none m y from below there holds =
            let low = rw (get_or_from_slice_get zs m y 0 there) at (point.0 m 0 (omega arith) below) in
            let high = least y holds (no_less m y from there) in absurd (omega arith)

    -- the box has no address from that at the place on
    pub ended : ((m : ℕ) → Holds zbox m → m < z) → AreThoseIn zbox zs found
    ended none =
        whole zs found (length zs) (omega arith)
        (those_up_to zs found place (length zs) (omega (within, arith)) (omega arith)
        (λ m y from below there holds. let low = none y holds in let high = no_less m y from there in absurd (omega arith)) those)

  -- a turn of the loop, by what the box answers of the address at the place
  module _ (zs found : List ℕ) (up : IsNonDecreasing zs) (place : ℕ) (below : place < length zs) (those : AreThoseIn zbox (take place zs) found) (answer : Option ℕ)
      (least : LeastFrom (Holds zbox) (slice_index_or zs place 0) answer) where
    here : slice_get zs place ≡ Some (slice_index_or zs place 0)
    here = slice_get-get_or zs place 0 below

    some_of : (next : ℕ) → answer ≡ Some next → IsLeastFrom (Holds zbox) (slice_index_or zs place 0) next
    some_of next e = rw e at least

    pub taken : (next : ℕ) (more : List ℕ) → answer ≡ Some next → next ≡ slice_index_or zs place 0 → more ≡ found ++ next ∷ [] → AreThoseIn zbox (take (place + 1) zs) more
    taken next more e same is =
        let held : AreThoseIn zbox (take (suc place) zs) (found ++ next ∷ []) =
        subst (λ (z : ℕ). AreThoseIn zbox (take (suc place) zs) (found ++ z ∷ [])) (sym same)
        (found_more zs found up place _ here those (subst (Holds zbox) same (some_of next e).0)) in
        let one : suc place ≡ place + 1 = omega arith in
        subst (λ (n : ℕ). AreThoseIn zbox (take n zs) more) one (subst (AreThoseIn zbox (take (suc place) zs)) (sym is) held)

    pub passed : (next i : ℕ) → answer ≡ Some next → ¬ (next ≡ slice_index_or zs place 0) → i ≤ length zs → IsPartitionPoint (λ a. a < next) (λ a. next ≤ a) zs i
        → (place < i) × AreThoseIn zbox (take i zs) found
    passed next i e other far point =
        let (holds, from, all) = some_of next e in
        jumped zs found up place _ here those next i (later from) all far point
      where
        later : slice_index_or zs place 0 ≤ next → slice_index_or zs place 0 < next
        later from = elim (cases_eq next (slice_index_or zs place 0)) [
          | inl same ↦ absurd (other same)
          | inr ne ↦ omega arith
        ]

    pub none_left : answer ≡ None → AreThoseIn zbox zs found
    none_left e = ended zs found up place _ here those (rw e at least)
