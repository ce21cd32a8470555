-- A point of some boxes has a property or none has it: so a span meets them or it doesn't, and has a value in a dimension or hasn't.
use Rattle.std.proofs.Common.{◌≡◌, ◌≤◌, ◌<◌, ◌+◌, ◌-◌, nat_eq, ℕ, zero, suc, List, [], ◌∷◌, length, slice_index, Contains, ◌⊎◌, inl, inr, refl, sym, ap, subst, arith}
use Rattle.std.proofs.lemmas.Bool.{cases_Bool, cases_lt, eqb-true, eqb-false}
use Rattle.ub_bigmin.specs.Box.{Corners, IsInside, IsValueInSpan}
use Rattle.ub_planning.proofs.InsideFacts.{at_each}
use Rattle.ub_planning.specs.Visits.{Span, Meets, AreMeeting, spans_of}
use Rattle.ub_region.specs.Those.{AreThose}
use Rattle.ub_query.proofs.Laws.{contains_here, contains_later, contains_cases, contains_none}
use Rattle.ub_table.specs.Region.{RegionRows}
use Rattle.ub_table.specs.declared.schema.Schema.{Schema}
use Rattle.ub_zaddr.specs.Address.{IsAtMost, address}

-- some number of a range has a property, or none has it
find_number : (Q : ℕ → Type 0) → ((x : ℕ) → Q x ⊎ (¬ (Q x))) → (low n : ℕ)
    → ((x : ℕ) × (low ≤ x) × (x < low + n) × Q x) ⊎ ((x : ℕ) → low ≤ x → x < low + n → ¬ (Q x))
find_number Q decide low zero = inr (λ x from to q. absurd (omega arith))
find_number Q decide low (suc n) = elim (decide (low + n)) [
  | inl q ↦ inl (low + n, omega arith, omega arith, q)
  | inr out ↦ elim (find_number Q decide low n) [
    | inl found ↦ let from = found.1 in let to = found.2 in inl (found.0, from, omega arith, found.3)
    | inr none ↦ inr (λ x from to q. elim (cases_lt x (low + n)) [
      | inl lt ↦ none x from lt q
      | inr ge ↦ let same : x ≡ low + n = omega arith in out (subst Q same q)
    ])
  ]
]

-- some point between two corners has a property, or none has it
abbrev Found : List ℕ → List ℕ → (List ℕ → Type 0) → Type 0
Found lo hi Q = (p : List ℕ) × IsAtMost lo p × IsAtMost p hi × Q p

find_point : (lo hi : List ℕ) (Q : List ℕ → Type 0) → ((p : List ℕ) → Q p ⊎ (¬ (Q p))) → Found lo hi Q ⊎ (¬ (Found lo hi Q))
find_point [] [] Q decide = elim (decide []) [
  | inl q ↦ inl ([], (refl, λ i within. absurd (omega arith)), (refl, λ i within. absurd (omega arith)), q)
  | inr out ↦ inr (λ found. alone out found.0 found.1.0 found.3)
]
  where
    alone : ¬ (Q []) → (p : List ℕ) → 0 ≡ length p → Q p → ⊥
    alone out [] e q = out q
    alone out (x ∷ p) e q = absurd (omega arith)
find_point [] (h ∷ hi) Q decide = inr (λ found. let a = found.1.0 in let b = found.2.0 in absurd (omega arith))
find_point (l ∷ lo) [] Q decide = inr (λ found. let a = found.1.0 in let b = found.2.0 in absurd (omega arith))
find_point (l ∷ lo) (h ∷ hi) Q decide =
    elim (find_number (λ x. Found lo hi (λ p. Q (x ∷ p))) (λ x. find_point lo hi (λ p. Q (x ∷ p)) (λ p. decide (x ∷ p))) l (h + 1 - l)) [
      | inl found ↦
          let x = found.0 in let from = found.1 in let to = found.2 in let rest = found.3 in
          let low : l ≤ x = from in
          let high : x ≤ h = omega arith in
          inl (
            x ∷ rest.0,
            (ap suc rest.1.0, at_each l x lo rest.0 low rest.1.1),
            (ap suc rest.2.0, at_each x h rest.0 hi high rest.2.1),
            rest.3,
          )
      | inr none ↦ inr (λ found. nowhere none found.0 found.1 found.2 found.3)
    ]
  where
    nowhere : ((x : ℕ) → l ≤ x → x < l + (h + 1 - l) → ¬ (Found lo hi (λ p. Q (x ∷ p)))) → (p : List ℕ) → IsAtMost (l ∷ lo) p → IsAtMost p (h ∷ hi) → Q p → ⊥
    nowhere none [] a b q = let e = a.0 in absurd (omega arith)
    nowhere none (x ∷ p) a b q =
        let low : l ≤ x = a.1 0 (omega arith) in
        let high : x ≤ h = b.1 0 (omega arith) in
        let long = a.0 in let wide = b.0 in
        none x low (omega arith) (p, (omega arith, λ i within. a.1 (suc i) (omega arith)), (omega arith, λ i within. b.1 (suc i) (omega arith)), q)

between : (from to z : ℕ) → ((from ≤ z) × (z ≤ to)) ⊎ (¬ ((from ≤ z) × (z ≤ to)))
between from to z = elim (cases_lt z from) [
  | inl lt ↦ inr (λ h. let a = h.0 in absurd (omega arith))
  | inr ge ↦ elim (cases_lt to z) [
    | inl lt ↦ inr (λ h. let b = h.1 in absurd (omega arith))
    | inr le ↦ inl (ge, le)
  ]
]

-- some point of the boxes has a property
pub record HasPoint (boxes : List Corners) (Q : List ℕ → Type 0) : Type 0 where
  pub space : Corners
  pub point : List ℕ
  pub there : Contains boxes space
  pub inside : IsInside space point
  pub has : Q point

-- some point of the boxes has a property, or none has it
pub some_point : (boxes : List Corners) (Q : List ℕ → Type 0) → ((p : List ℕ) → Q p ⊎ (¬ (Q p))) → HasPoint boxes Q ⊎ (¬ (HasPoint boxes Q))
some_point [] Q decide = inr (λ h. contains_none h.space h.there)
some_point (b ∷ boxes) Q decide = elim (find_point b.lo b.hi Q decide) [
  | inl found ↦ inl (record { space = b; point = found.0; there = contains_here b boxes; inside = (found.1, found.2); has = found.3 })
  | inr none ↦ elim (some_point boxes Q decide) [
    | inl h ↦ inl (record { space = h.space; point = h.point; there = contains_later b boxes h.space h.there; inside = h.inside; has = h.has })
    | inr out ↦ inr (λ h. neither none out h.space h.there h.point h.inside h.has)
  ]
]
  where
    neither : ¬ (Found b.lo b.hi Q) → ¬ (HasPoint boxes Q) → (c : Corners) → Contains (b ∷ boxes) c → (p : List ℕ) → IsInside c p → Q p → ⊥
    neither none out c there p inside q = elim (contains_cases b boxes c there) [
      | inl same ↦
          let here = subst (λ (d : Corners). IsAtMost d.lo p × IsAtMost p d.hi) (sym same) inside in
          none (p, here.0, here.1, q)
      | inr rest ↦ out (record { space = c; point = p; there = rest; inside = inside; has = q })
    ]

pub meets_or_not : (boxes : List Corners) (from to : ℕ) → Meets boxes from to ⊎ (¬ (Meets boxes from to))
meets_or_not boxes from to = elim (some_point boxes (λ p. (from ≤ address p) × (address p ≤ to)) (λ p. between from to (address p))) [
  | inl h ↦ inl (address h.point, (h.space, h.there, (h.point, h.inside, refl)), h.has.0, h.has.1)
  | inr out ↦ inr (λ m. none out m.0 m.1.0 m.1.1 m.1.2.0 m.1.2.1 m.1.2.2 m.2 m.3)
]
  where
    none : ¬ (HasPoint boxes (λ p. (from ≤ address p) × (address p ≤ to))) → (z : ℕ) (b : Corners) → Contains boxes b → (p : List ℕ) → IsInside b p
        → address p ≡ z → from ≤ z → z ≤ to → ⊥
    none out z b there p inside is low high =
        out (record {
          space = b;
          point = p;
          there = there;
          inside = inside;
          has = (subst (λ (n : ℕ). from ≤ n) (sym is) low, subst (λ (n : ℕ). n ≤ to) (sym is) high);
        })

-- ---- coordinates in a dimension

-- the point's address lies in the span, and its coordinate is v
abbrev pub HasValue : ℕ → ℕ → ℕ → ℕ → List ℕ → Type 0
HasValue from to dim v p = ((from ≤ address p) × (address p ≤ to)) × (slice_index p dim ≡ v)

has_value_or_not : (from to dim v : ℕ) (p : List ℕ) → HasValue from to dim v p ⊎ (¬ (HasValue from to dim v p))
has_value_or_not from to dim v p = elim (between from to (address p)) [
  | inl here ↦ elim (cases_Bool (nat_eq (slice_index p dim) v)) [
    | inl t ↦ inl (here, eqb-true (slice_index p dim) v t)
    | inr f ↦ inr (λ h. eqb-false (slice_index p dim) v f h.1)
  ]
  | inr out ↦ inr (λ h. out h.0)
]

pub value_or_not : (boxes : List Corners) (from to dim v : ℕ) → IsValueInSpan boxes from to dim v ⊎ (¬ (IsValueInSpan boxes from to dim v))
value_or_not boxes from to dim v = elim (some_point boxes (HasValue from to dim v) (has_value_or_not from to dim v)) [
  | inl h ↦ inl (h.space, h.point, h.there, h.inside, h.has.0.0, h.has.0.1, h.has.1)
  | inr out ↦ inr (λ m. out (record { space = m.0; point = m.1; there = m.2; inside = m.3; has = ((m.4, m.5), m.6) }))
]

pub those_of : {E : Type 0} (P : E → Type 0) → ((x : E) → P x ⊎ (¬ (P x))) → (xs : List E) → (those : List E) × AreThose P xs those
those_of P decide [] = ([], refl)
those_of P decide (x ∷ xs) =
    let (those, are) = those_of P decide xs in
    elim (decide x) [
      | inl p ↦ (x ∷ those, inl (p, those, refl, are))
      | inr out ↦ (those, inr (out, are))
    ]

pub meeting_of : (schema : Schema) (boxes : List Corners) (regions : List RegionRows) → (meeting : List Span) × AreMeeting schema boxes regions meeting
meeting_of schema boxes regions =
    those_of (λ (span : Span). Meets boxes span.from span.to) (λ span. meets_or_not boxes span.from span.to) (spans_of schema regions)
