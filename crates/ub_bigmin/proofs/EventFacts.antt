-- The least and the greatest coordinate in a span of addresses, from those in its two halves.
use Rattle.std.proofs.Common.{◌≡◌, ◌≤◌, ◌<◌, ◌/◌, ◌^◌, ℕ, zero, suc, [], ◌∷◌, Option, Some, None, refl, sym, subst, arith, ◌⊎◌, inl, inr, min, max}
use Rattle.std.specs.Prelude.{Contains}
use Rattle.std.proofs.Math.Nat.{min-le_left, min-le_right, le-min, min-eq_left, min-eq_right, le-max_left, le-max_right, max-eq_left, max-eq_right}
use Rattle.std.proofs.Math.Pow.{shr_mono}
use Rattle.std.proofs.lemmas.Bool.{cases_lt}
use Rattle.ub_zaddr.specs.Address.{address, last_address}
use Rattle.ub_bigmin.specs.Box.{Corners, IsBox, IsInside, IsValueInSpan}
use Rattle.ub_bigmin.specs.Extremes.{Least, Greatest}
use Rattle.ub_bigmin.specs.Halves.{IsHalvedAt, IsHalfFrom, IsHalfUpTo, IsValueOf, IsUnder, IsOver}
use Rattle.ub_bigmin.proofs.PointFacts.{IsPoint-below}
use Rattle.ub_bigmin.proofs.AddressOrder.{address-below}

pub one_contains : {X : Type 0} (x y : X) → Contains (x ∷ []) y → x ≡ y
one_contains x y (zero, lt, e) = e
one_contains x y (suc k, lt, e) = absurd (omega arith)

pub contains_one : {X : Type 0} (x : X) → Contains (x ∷ []) x
contains_one x = (0, omega arith, refl)

-- ---- the numbers of a span

below_shr : (a z k : ℕ) → a / 2 ^ k < z / 2 ^ k → a < z
below_shr a z k h = elim (cases_lt a z) [
  | inl lt ↦ lt
  | inr le ↦ let m : z / 2 ^ k ≤ a / 2 ^ k = shr_mono k le in absurd (omega arith)
]

module _ (from to k : ℕ) (h : IsHalvedAt from to k) where
  -- the ends are neighbours from place k up, or no place is left below
  ends : (from / 2 ^ k < to / 2 ^ k) ⊎ (k ≡ 0)
  ends = elim (cases_lt (from / 2 ^ k) (to / 2 ^ k)) [
    | inl lt ↦ inl lt
    | inr le ↦ inr (let m : from / 2 ^ k ≤ to / 2 ^ k = shr_mono k h.ordered in h.one (omega arith))
  ]

  whole : (a c : ℕ) → k ≡ 0 → a / 2 ^ k ≡ c / 2 ^ k → a ≡ c
  whole a c none e = let same : a / 2 ^ 0 ≡ c / 2 ^ 0 = rw none at e in omega arith

  half_from : (a : ℕ) → IsHalfFrom k from a → a ≤ to
  half_from a (agrees, le) = elim ends [
    | inl lt ↦ let less : a < to = below_shr a to k (omega arith) in omega arith
    | inr none ↦ let one : a ≡ from = whole a from none agrees in let ordered = h.ordered in omega arith
  ]

  half_up_to : (a : ℕ) → IsHalfUpTo k to a → from ≤ a
  half_up_to a (agrees, le) = elim ends [
    | inl lt ↦ let less : from < a = below_shr from a k (omega arith) in omega arith
    | inr none ↦ let one : a ≡ to = whole a to none agrees in let ordered = h.ordered in omega arith
  ]

  in_half : (a : ℕ) → from ≤ a → a ≤ to → IsHalfFrom k from a ⊎ IsHalfUpTo k to a
  in_half a start end =
      let low : from / 2 ^ k ≤ a / 2 ^ k = shr_mono k start in
      let high : a / 2 ^ k ≤ to / 2 ^ k = shr_mono k end in
      let near = h.near in
      elim (cases_lt (from / 2 ^ k) (a / 2 ^ k)) [
        | inl lt ↦ inr (omega arith, end)
        | inr le ↦ inl (omega arith, start)
      ]

-- ---- the values

module _ (b : Corners) (dim from to : ℕ) where
  -- a value is that of a point of the box whose address lies in the span
  value_at : (u : ℕ) → IsValueInSpan (b ∷ []) from to dim u → IsValueOf b (λ a. (from ≤ a) × (a ≤ to)) dim u
  value_at u (c, p, in_list, inside, start, end, is) = (p, subst (λ (x : Corners). IsInside x p) (sym (one_contains b c in_list)) inside, (start, end), is)

  at_value : (u : ℕ) → IsValueOf b (λ a. (from ≤ a) × (a ≤ to)) dim u → IsValueInSpan (b ∷ []) from to dim u
  at_value u (p, inside, (start, end), is) = (b, p, contains_one b, inside, start, end, is)

  module _ (k : ℕ) (h : IsHalvedAt from to k) where
    low_value : (u : ℕ) → IsValueOf b (IsHalfFrom k from) dim u → IsValueInSpan (b ∷ []) from to dim u
    low_value u (p, inside, half, is) = at_value u (p, inside, (half.1, half_from from to k h (address p) half), is)

    high_value : (u : ℕ) → IsValueOf b (IsHalfUpTo k to) dim u → IsValueInSpan (b ∷ []) from to dim u
    high_value u (p, inside, half, is) = at_value u (p, inside, (half_up_to from to k h (address p) half, half.1), is)

    value_half : (u : ℕ) → IsValueInSpan (b ∷ []) from to dim u → IsValueOf b (IsHalfFrom k from) dim u ⊎ IsValueOf b (IsHalfUpTo k to) dim u
    value_half u v =
        let (p, inside, span, is) = value_at u v in
        elim (in_half from to k h (address p) span.0 span.1) [
          | inl half ↦ inl (p, inside, half, is)
          | inr half ↦ inr (p, inside, half, is)
        ]

    pub least_both : (m n : ℕ) → Least (IsValueOf b (IsHalfFrom k from) dim) (Some m) → Least (IsValueOf b (IsHalfUpTo k to) dim) (Some n)
        → Least (IsValueInSpan (b ∷ []) from to dim) (Some (min m n))
    least_both m n low high =
        let left = min-le_left m n in let right = min-le_right m n in (
          elim (cases_lt n m) [
            | inl lt ↦ let e : min m n ≡ n = min-eq_right (omega arith) in rw e (high_value n high.0)
            | inr le ↦ let e : min m n ≡ m = min-eq_left le in rw e (low_value m low.0)
          ],
          λ u v. elim (value_half u v) [
            | inl w ↦ let le = low.1 u w in omega arith
            | inr w ↦ let le = high.1 u w in omega arith
          ],
        )

    pub least_low : (m : ℕ) → Least (IsValueOf b (IsHalfFrom k from) dim) (Some m) → Least (IsValueOf b (IsHalfUpTo k to) dim) None
        → Least (IsValueInSpan (b ∷ []) from to dim) (Some m)
    least_low m low high = (
      low_value m low.0,
      λ u v. elim (value_half u v) [
        | inl w ↦ low.1 u w
        | inr w ↦ absurd (high u w)
      ],
    )

    pub least_high : (o : Option ℕ) → Least (IsValueOf b (IsHalfFrom k from) dim) None → Least (IsValueOf b (IsHalfUpTo k to) dim) o
        → Least (IsValueInSpan (b ∷ []) from to dim) o
    least_high None low high = λ u v. elim (value_half u v) [
      | inl w ↦ low u w
      | inr w ↦ high u w
    ]
    least_high (Some n) low high = (
      high_value n high.0,
      λ u v. elim (value_half u v) [
        | inl w ↦ absurd (low u w)
        | inr w ↦ high.1 u w
      ],
    )

    -- where no value of the first half is less, the least of the second half is that of the span
    pub least_second : (o : Option ℕ) → IsUnder b (IsHalfFrom k from) dim o → Least (IsValueOf b (IsHalfUpTo k to) dim) o → Least (IsValueInSpan (b ∷ []) from to dim) o
    least_second None under high = absurd under
    least_second (Some n) under high = (
      high_value n high.0,
      λ u v. elim (value_half u v) [
        | inl w ↦ under u w
        | inr w ↦ high.1 u w
      ],
    )

    pub greatest_both : (m n : ℕ) → Greatest (IsValueOf b (IsHalfFrom k from) dim) (Some m) → Greatest (IsValueOf b (IsHalfUpTo k to) dim) (Some n)
        → Greatest (IsValueInSpan (b ∷ []) from to dim) (Some (max m n))
    greatest_both m n low high =
        let left = le-max_left m n in let right = le-max_right m n in (
          elim (cases_lt m n) [
            | inl lt ↦ let e : max m n ≡ n = max-eq_right (omega arith) in rw e (high_value n high.0)
            | inr le ↦ let e : max m n ≡ m = max-eq_left le in rw e (low_value m low.0)
          ],
          λ u v. elim (value_half u v) [
            | inl w ↦ let le = low.1 u w in omega arith
            | inr w ↦ let le = high.1 u w in omega arith
          ],
        )

    pub greatest_low : (m : ℕ) → Greatest (IsValueOf b (IsHalfFrom k from) dim) (Some m) → Greatest (IsValueOf b (IsHalfUpTo k to) dim) None
        → Greatest (IsValueInSpan (b ∷ []) from to dim) (Some m)
    greatest_low m low high = (
      low_value m low.0,
      λ u v. elim (value_half u v) [
        | inl w ↦ low.1 u w
        | inr w ↦ absurd (high u w)
      ],
    )

    pub greatest_high : (o : Option ℕ) → Greatest (IsValueOf b (IsHalfFrom k from) dim) None → Greatest (IsValueOf b (IsHalfUpTo k to) dim) o
        → Greatest (IsValueInSpan (b ∷ []) from to dim) o
    greatest_high None low high = λ u v. elim (value_half u v) [
      | inl w ↦ low u w
      | inr w ↦ high u w
    ]
    greatest_high (Some n) low high = (
      high_value n high.0,
      λ u v. elim (value_half u v) [
        | inl w ↦ absurd (low u w)
        | inr w ↦ high.1 u w
      ],
    )

    -- where no value of the second half is greater, the greatest of the first half is that of the span
    pub greatest_first : (o : Option ℕ) → IsOver b (IsHalfUpTo k to) dim o → Greatest (IsValueOf b (IsHalfFrom k from) dim) o → Greatest (IsValueInSpan (b ∷ []) from to dim) o
    greatest_first None over low = absurd over
    greatest_first (Some n) over low = (
      low_value n low.0,
      λ u v. elim (value_half u v) [
        | inl w ↦ low.1 u w
        | inr w ↦ over u w
      ],
    )

-- ---- a span that ends above the last address

module _ (d : ℕ) (b : Corners) (is : IsBox d b) (dim from to end : ℕ) (end_is : end ≡ min to (last_address d)) where
  clamped : (u : ℕ) → IsValueInSpan (b ∷ []) from to dim u → IsValueInSpan (b ∷ []) from end dim u
  clamped u v =
      let (p, inside, span, at) = value_at b dim from to u v in
      let below = address-below d p (IsPoint-below d p b.hi inside.1 is.hi) in
      at_value b dim from end u (p, inside, (span.0, (let le = le-min {k = address p} {a = to} {b = last_address d} span.1 (omega arith) in omega arith)), at)

  unclamped : (u : ℕ) → IsValueInSpan (b ∷ []) from end dim u → IsValueInSpan (b ∷ []) from to dim u
  unclamped u v =
      let (p, inside, span, at) = value_at b dim from end u v in
      let le = min-le_left to (last_address d) in
      at_value b dim from to u (p, inside, (span.0, (let high = span.1 in omega arith)), at)

  -- a span that ends before it starts has no value
  pub no_span : end < from → (u : ℕ) → IsValueInSpan (b ∷ []) from to dim u → ⊥
  no_span lt u v =
      let (p, inside, span, at) = value_at b dim from end u (clamped u v) in
      let low = span.0 in let high = span.1 in
      omega arith

  pub least_clamped : (o : Option ℕ) → Least (IsValueInSpan (b ∷ []) from end dim) o → Least (IsValueInSpan (b ∷ []) from to dim) o
  least_clamped None h = λ u v. h u (clamped u v)
  least_clamped (Some n) h = (unclamped n h.0, λ u v. h.1 u (clamped u v))

  pub greatest_clamped : (o : Option ℕ) → Greatest (IsValueInSpan (b ∷ []) from end dim) o → Greatest (IsValueInSpan (b ∷ []) from to dim) o
  greatest_clamped None h = λ u v. h u (clamped u v)
  greatest_clamped (Some n) h = (unclamped n h.0, λ u v. h.1 u (clamped u v))
