-- A set of numbers that has a member has a least one, and where it has a bound, a greatest; so each span that meets some boxes
-- has an event value, and only one.
use Rattle.std.proofs.Common.{◌≡◌, ◌≤◌, ◌<◌, ◌+◌, ℕ, zero, suc, Bool, true, false, List, [], ◌∷◌, length, slice_index, Contains, ◌⊎◌, inl, inr, refl, sym, ap, subst, arith}
use Rattle.std.proofs.lemmas.Bool.{cases_lt}
use Rattle.ub_bigmin.specs.Box.{Corners, IsValueInSpan}
use Rattle.ub_planning.proofs.FoundFacts.{value_or_not}
use Rattle.ub_planning.specs.Visits.{Span, Meets, IsEventValue}
use Rattle.ub_query.proofs.Laws.{contains_cases, contains_none}
use Rattle.ub_zaddr.specs.Address.{IsAtMost}

-- ---- least and greatest

abbrev IsLeast : (ℕ → Type 0) → ℕ → Type 0
IsLeast P n = P n × ((m : ℕ) → P m → n ≤ m)

abbrev IsGreatest : (ℕ → Type 0) → ℕ → Type 0
IsGreatest P n = P n × ((m : ℕ) → P m → m ≤ n)

-- a member isn't below a number below which there is none
not_below : (P : ℕ → Type 0) (low m : ℕ) → ((x : ℕ) → x < low → ¬ (P x)) → P m → low ≤ m
not_below P low m none q = elim (cases_lt m low) [
  | inl lt ↦ absurd (none m lt q)
  | inr ge ↦ ge
]

least_from : (P : ℕ → Type 0) → ((x : ℕ) → P x ⊎ (¬ (P x))) → (low n : ℕ) → ((x : ℕ) → x < low → ¬ (P x)) → P (low + n) → (v : ℕ) × IsLeast P v
least_from P decide low zero none p =
    let same : low + 0 ≡ low = omega arith in
    (low, (subst P same p, λ m q. not_below P low m none q))
least_from P decide low (suc n) none p = elim (decide low) [
  | inl here ↦ (low, (here, λ m q. not_below P low m none q))
  | inr out ↦
      let same : low + suc n ≡ suc low + n = omega arith in
      least_from P decide (suc low) n
      (λ x lt q. elim (cases_lt x low) [
        | inl less ↦ none x less q
        | inr ge ↦ let is : x ≡ low = omega arith in out (subst P is q)
      ])
      (subst P same p)
]

greatest_to : (P : ℕ → Type 0) → ((x : ℕ) → P x ⊎ (¬ (P x))) → (n w : ℕ) → ((x : ℕ) → P x → x ≤ n) → P w → (v : ℕ) × IsGreatest P v
greatest_to P decide zero w most p =
    let below = most w p in
    let same : w ≡ 0 = omega arith in
    (0, (subst P same p, most))
greatest_to P decide (suc n) w most p = elim (decide (suc n)) [
  | inl here ↦ (suc n, (here, most))
  | inr out ↦ greatest_to P decide n w
      (λ x q. elim (cases_lt n x) [
        | inl lt ↦ let below = most x q in let is : x ≡ suc n = omega arith in absurd (out (subst P is q))
        | inr ge ↦ ge
      ])
      p
]

-- ---- the coordinates of some boxes have a bound

bound : ℕ → List Corners → ℕ
bound dim [] = 0
bound dim (b ∷ boxes) = slice_index b.hi dim + bound dim boxes

out_of_list : (xs : List ℕ) (i : ℕ) → length xs ≤ i → slice_index xs i ≡ 0
out_of_list [] i past = refl
out_of_list (x ∷ xs) zero past = absurd (omega arith)
out_of_list (x ∷ xs) (suc i) past = out_of_list xs i (omega arith)

at_most_at : (p q : List ℕ) (i : ℕ) → IsAtMost p q → slice_index p i ≤ slice_index q i
at_most_at p q i h = elim (cases_lt i (length p)) [
  | inl within ↦ h.1 i within
  | inr past ↦ let none = out_of_list p i past in omega arith
]

in_bound : (dim : ℕ) (boxes : List Corners) (b : Corners) → Contains boxes b → slice_index b.hi dim ≤ bound dim boxes
unfolding bound
in_bound dim [] b there = absurd (contains_none b there)
in_bound dim (c ∷ boxes) b there = elim (contains_cases c boxes b there) [
  | inl same ↦ let e = ap (λ (d : Corners). slice_index d.hi dim) same in omega arith
  | inr rest ↦ let more = in_bound dim boxes b rest in omega arith
]

value_bound : (boxes : List Corners) (from to dim v : ℕ) → IsValueInSpan boxes from to dim v → v ≤ bound dim boxes
value_bound boxes from to dim v (b, p, there, inside, low, high, is) =
    let most = at_most_at p b.hi dim inside.1 in
    let all = in_bound dim boxes b there in
    omega arith

-- ---- event values

some_value : (boxes : List Corners) (from to dim : ℕ) → Meets boxes from to → (v : ℕ) × IsValueInSpan boxes from to dim v
some_value boxes from to dim (z, (b, there, (p, inside, is)), low, high) =
    (slice_index p dim, (b, p, there, inside, subst (λ (n : ℕ). from ≤ n) (sym is) low, subst (λ (n : ℕ). n ≤ to) (sym is) high, refl))

pub event_value : (boxes : List Corners) (dim : ℕ) (is_descending : Bool) (span : Span) → Meets boxes span.from span.to → (v : ℕ) × IsEventValue boxes dim is_descending span v
event_value boxes dim false span meets =
    let (w, is) = some_value boxes span.from span.to dim meets in
    let none : w ≡ 0 + w = omega arith in
    least_from (IsValueInSpan boxes span.from span.to dim) (value_or_not boxes span.from span.to dim) 0 w (λ x lt q. absurd (omega arith)) (subst (IsValueInSpan boxes span.from span.to dim) none is)
event_value boxes dim true span meets =
    let (w, is) = some_value boxes span.from span.to dim meets in
    greatest_to (IsValueInSpan boxes span.from span.to dim) (value_or_not boxes span.from span.to dim) (bound dim boxes) w (value_bound boxes span.from span.to dim) is

pub one_value : (boxes : List Corners) (dim : ℕ) (is_descending : Bool) (span : Span) (v w : ℕ) → IsEventValue boxes dim is_descending span v → IsEventValue boxes dim is_descending span w → v ≡ w
one_value boxes dim false span v w a b = let p = a.1 w b.0 in let q = b.1 v a.0 in omega arith
one_value boxes dim true span v w a b = let p = a.1 w b.0 in let q = b.1 v a.0 in omega arith
