-- One place of the search: each row of the decision table keeps what the search knows.
use Rattle.std.proofs.Common.{◌≡◌, ◌≤◌, ◌<◌, ◌+◌, ◌-◌, ◌*◌, ◌/◌, ◌^◌, ℕ, List, length, refl, sym, ap, ◌∙◌, arith, ◌⊎◌, inl, inr, slice_index, slice_set, Option, Some, None, IfSome, get_or-set_same}
use Rattle.std.specs.Int.{bit_at}
use Rattle.std.proofs.Math.Nat.{div-eq_of_lt}
use Rattle.std.proofs.lemmas.Bool.{cases_lt}
use Rattle.ub_zaddr.specs.Address.{address, place, IsAtMost, IsPoint}
use Rattle.ub_bigmin.specs.Box.{Corners, IsInside, Holds}
use Rattle.ub_bigmin.specs.Extremes.{LeastFrom, GreatestUpTo}
use Rattle.ub_bigmin.specs.Around.{IsAround, IsPassed, AreNeighbours}
use Rattle.ub_bigmin.specs.Middle.{middle}
use Rattle.ub_bigmin.proofs.CutFacts.{agree_more, agree_between, below_at, middle-le, middle_above, bit_at-middle, bit_at-below_middle}
use Rattle.ub_bigmin.proofs.PointFacts.{IsAtMost-refl, IsAtMost-trans, IsPoint-below, IsAtMost-set_left, IsAtMost-set_right}
use Rattle.ub_bigmin.proofs.AddressOrder.{address-mono, bit_at-address, address-below}

-- a nearer neighbour above
passed_above : (z n m : ℕ) (below above : Option ℕ) → IfSome above (λ old. n ≤ old) → IsPassed z below above m → IsPassed z below (Some n) m
passed_above z n m below above le (inl s) = inl s
passed_above z n m below None le (inr s) = absurd s.1
passed_above z n m below (Some old) le (inr s) = let far = s.1 in inr (s.0, omega arith)

passed_below : (z n m : ℕ) (below above : Option ℕ) → IfSome below (λ old. old ≤ n) → IsPassed z below above m → IsPassed z (Some n) above m
passed_below z n m below above le (inr s) = inr s
passed_below z n m None above le (inl s) = absurd s.1
passed_below z n m (Some old) above le (inl s) = let far = s.1 in inl (s.0, omega arith)

-- where all of the box is passed, the neighbours found are the neighbours
least_settled : (b : Corners) (z : ℕ) (below above : Option ℕ) → IfSome above (λ n. Holds b n × (z < n))
    → ((p : List ℕ) → IsInside b p → IsPassed z below above (address p)) → LeastFrom (Holds b) z above
least_settled b z below None found all = λ m h. elim (all h.0 h.1) [
  | inl s ↦ let e = h.2 in let lt = s.0 in omega arith
  | inr s ↦ absurd s.1
]
least_settled b z below (Some n) found all = (
  found.0,
  (let lt = found.1 in omega arith),
  λ m h le. elim (all h.0 h.1) [
    | inl s ↦ let e = h.2 in let lt = s.0 in absurd (omega arith)
    | inr s ↦ let e = h.2 in let far = s.1 in omega arith
  ],
)

greatest_settled : (b : Corners) (z : ℕ) (below above : Option ℕ) → IfSome below (λ n. Holds b n × (n < z))
    → ((p : List ℕ) → IsInside b p → IsPassed z below above (address p)) → GreatestUpTo (Holds b) z below
greatest_settled b z None above found all = λ m h. elim (all h.0 h.1) [
  | inr s ↦ let e = h.2 in let lt = s.0 in omega arith
  | inl s ↦ absurd s.1
]
greatest_settled b z (Some n) above found all = (
  found.0,
  (let lt = found.1 in omega arith),
  λ m h le. elim (all h.0 h.1) [
    | inr s ↦ let e = h.2 in let lt = s.0 in absurd (omega arith)
    | inl s ↦ let e = h.2 in let far = s.1 in omega arith
  ],
)

some_weaker : (o : Option ℕ) (P Q : ℕ → Type 0) → ((n : ℕ) → P n → Q n) → IfSome o P → IfSome o Q
some_weaker None P Q h s = tt
some_weaker (Some n) P Q h s = h n s

-- an address that the box holds is its own neighbour on both sides
pub neighbours_at : (b : Corners) (z : ℕ) → Holds b z → AreNeighbours b z (Some z) (Some z)
neighbours_at b z h = ((h, omega arith, λ m i le. le), (h, omega arith, λ m i le. le))

module _ (d : ℕ) (b : Corners) (is : IsPoint d b.hi) (between : IsAtMost b.lo b.hi) where
  -- the points of the box are points of its shape
  inside_point : (p : List ℕ) → IsAtMost p b.hi → IsPoint d p
  inside_point p h = IsPoint-below d p b.hi h is

  -- before any place is read
  pub around_start : (z : ℕ) → z < 2 ^ (32 * d) → IsAround b z (32 * d) b.lo b.hi None None
  around_start z small =
      let zero : z / 2 ^ (32 * d) ≡ 0 = div-eq_of_lt small in
      let low : address b.lo / 2 ^ (32 * d) ≡ 0 = div-eq_of_lt (address-below d b.lo (inside_point b.lo between)) in
      let high : address b.hi / 2 ^ (32 * d) ≡ 0 = div-eq_of_lt (address-below d b.hi is) in
      record {
        from = IsAtMost-refl b.lo;
        ordered = between;
        to = IsAtMost-refl b.hi;
        low_agrees = low ∙ sym zero;
        high_agrees = high ∙ sym zero;
        below_found = tt;
        above_found = tt;
        rest = λ p h. inl h;
      }

  -- above the last address of the shape
  pub neighbours_past : (z : ℕ) → 2 ^ (32 * d) ≤ z → AreNeighbours b z (Some (address b.hi)) None
  neighbours_past z big =
      let small = address-below d b.hi is in (
        (
          (b.hi, (between, IsAtMost-refl b.hi), refl),
          omega arith,
          λ m h le. let e = h.2 in let mono = address-mono d h.0 b.hi is h.1.1 in omega arith,
        ),
        λ m h. let e = h.2 in let lt = address-below d h.0 (inside_point h.0 h.1.1) in omega arith,
      )

  module _ (z : ℕ) (low high : List ℕ) (below above : Option ℕ) where
    -- after the last place
    pub around_end : IsAround b z 0 low high below above → Holds b z
    around_end a = (low, (a.from, IsAtMost-trans low high b.hi a.ordered a.to), (let e = a.low_agrees in omega arith))

    module _ (k : ℕ) (a : IsAround b z (k + 1) low high below above) where
      is_high : IsPoint d high
      is_high = inside_point high a.to

      is_low : IsPoint d low
      is_low = IsPoint-below d low high a.ordered is_high

      -- 010 and 110
      pub around_never : bit_at (address low) k ≡ 1 → bit_at (address high) k ≡ 0 → ⊥
      around_never el eh =
          let lt : address high < address low = below_at (address high) (address low) k (a.high_agrees ∙ sym a.low_agrees) eh el in
          let le = address-mono d low high is_high a.ordered in
          omega arith

      -- 000 and 111
      pub around_agree : bit_at (address low) k ≡ bit_at z k → bit_at (address high) k ≡ bit_at z k → IsAround b z k low high below above
      around_agree el eh = record {
        from = a.from;
        ordered = a.ordered;
        to = a.to;
        low_agrees = agree_more (address low) z k a.low_agrees el;
        high_agrees = agree_more (address high) z k a.high_agrees eh;
        below_found = a.below_found;
        above_found = a.above_found;
        rest = a.rest;
      }

      -- 011: all that is left of the box is above
      pub neighbours_box_above : bit_at z k ≡ 0 → bit_at (address low) k ≡ 1 → AreNeighbours b z below (Some (address low))
      neighbours_box_above ez el =
          let lt : z < address low = below_at z (address low) k (sym a.low_agrees) ez el in
          let ends : address low ≤ address high = address-mono d low high is_high a.ordered in
          let nearer : IfSome above (λ old. address low ≤ old) = some_weaker above _ _ (λ n f. let far = f.2 in omega arith) a.above_found in
          let all : (p : List ℕ) → IsInside b p → IsPassed z below (Some (address low)) (address p) = λ p h. elim (a.rest p h) [
            | inl i ↦ inr (let mono = address-mono d low p (inside_point p h.1) i.0 in (omega arith, omega arith))
            | inr s ↦ passed_above z (address low) (address p) below above nearer s
          ] in (
            greatest_settled b z below (Some (address low)) (some_weaker below _ _ (λ n f. (f.0, f.1)) a.below_found) all,
            least_settled b z below (Some (address low)) ((low, (a.from, IsAtMost-trans low high b.hi a.ordered a.to), refl), lt) all,
          )

      -- 100: all that is left of the box is below
      pub neighbours_box_below : bit_at z k ≡ 1 → bit_at (address high) k ≡ 0 → AreNeighbours b z (Some (address high)) above
      neighbours_box_below ez eh =
          let lt : address high < z = below_at (address high) z k a.high_agrees eh ez in
          let ends : address low ≤ address high = address-mono d low high is_high a.ordered in
          let nearer : IfSome below (λ old. old ≤ address high) = some_weaker below _ _ (λ n f. let far = f.2 in omega arith) a.below_found in
          let all : (p : List ℕ) → IsInside b p → IsPassed z (Some (address high)) above (address p) = λ p h. elim (a.rest p h) [
            | inl i ↦ inl (let mono = address-mono d p high is_high i.1 in (omega arith, omega arith))
            | inr s ↦ passed_below z (address high) (address p) below above nearer s
          ] in (
            greatest_settled b z (Some (address high)) above ((high, (IsAtMost-trans b.lo low high a.from a.ordered, a.to), refl), lt) all,
            least_settled b z (Some (address high)) above (some_weaker above _ _ (λ n f. (f.0, f.1)) a.above_found) all,
          )

      module _ (i c : ℕ) (hi : i < d) (hc : c < 32) (at : k ≡ place d i c) (lo_bit : bit_at (slice_index low i) c ≡ 0) (hi_bit : bit_at (slice_index high i) c ≡ 1) where
        i_low : i < length low
        i_low = let e = is_low.0 in omega arith

        i_high : i < length high
        i_high = let e = is_high.0 in omega arith

        -- the middle is above the lower corner, and at most the upper
        above_low : slice_index low i < middle (slice_index high i) c
        above_low = middle_above (slice_index low i) (slice_index high i) c (a.ordered.1 i i_low) lo_bit hi_bit

        -- the bits of the corners' addresses here
        low_zero : bit_at (address low) k ≡ 0
        low_zero = ap (λ (n : ℕ). bit_at (address low) n) at ∙ (bit_at-address d low i c is_low hi hc ∙ lo_bit)

        high_one : bit_at (address high) k ≡ 1
        high_one = ap (λ (n : ℕ). bit_at (address high) n) at ∙ (bit_at-address d high i c is_high hi hc ∙ hi_bit)

        up_to_high : middle (slice_index high i) c ≤ slice_index high i
        up_to_high = middle-le (slice_index high i) c

        -- the half below the middle lies from low to under, the half above it from over to high
        module _ (under over : List ℕ) (under_is : under ≡ slice_set high i (middle (slice_index high i) c - 1)) (over_is : over ≡ slice_set low i (middle (slice_index high i) c)) where
          low_over : IsAtMost low over
          low_over = rw over_is (IsAtMost-set_right low low i _ (IsAtMost-refl low) i_low (let x = above_low in omega arith))

          over_high : IsAtMost over high
          over_high = rw over_is (IsAtMost-set_left low high i _ a.ordered i_low up_to_high)

          low_under : IsAtMost low under
          low_under = rw under_is (IsAtMost-set_right low high i _ a.ordered i_high (let x = above_low in omega arith))

          under_high : IsAtMost under high
          under_high = rw under_is (IsAtMost-set_left high high i _ (IsAtMost-refl high) i_high (let x = up_to_high in omega arith))

          is_over : IsPoint d over
          is_over = IsPoint-below d over high over_high is_high

          is_under : IsPoint d under
          is_under = IsPoint-below d under high under_high is_high

          over_bit : bit_at (address over) k ≡ 1
          over_bit =
              let here : slice_index over i ≡ middle (slice_index high i) c = rw over_is (get_or-set_same low i _ 0 i_low) in
              ap (λ (n : ℕ). bit_at (address over) n) at ∙ (bit_at-address d over i c is_over hi hc ∙ ap (λ (n : ℕ). bit_at n c) here ∙ bit_at-middle (slice_index high i) c ∙ hi_bit)

          under_bit : bit_at (address under) k ≡ 0
          under_bit =
              let here : slice_index under i ≡ middle (slice_index high i) c - 1 = rw under_is (get_or-set_same high i _ 0 i_high) in
              ap (λ (n : ℕ). bit_at (address under) n) at ∙ (bit_at-address d under i c is_under hi hc ∙ ap (λ (n : ℕ). bit_at n c) here ∙ bit_at-below_middle (slice_index high i) c hi_bit)

          over_agrees : address over / 2 ^ (k + 1) ≡ z / 2 ^ (k + 1)
          over_agrees = agree_between (address low) (address over) (address high) (z / 2 ^ (k + 1)) (k + 1)
              (address-mono d low over is_over low_over) (address-mono d over high is_high over_high) a.low_agrees a.high_agrees

          under_agrees : address under / 2 ^ (k + 1) ≡ z / 2 ^ (k + 1)
          under_agrees = agree_between (address low) (address under) (address high) (z / 2 ^ (k + 1)) (k + 1)
              (address-mono d low under is_under low_under) (address-mono d under high is_high under_high) a.low_agrees a.high_agrees

          -- the halves are apart
          under_lt_over : address under < address over
          under_lt_over = below_at (address under) (address over) k (under_agrees ∙ sym over_agrees) under_bit over_bit

          over_holds : Holds b (address over)
          over_holds = (over, (IsAtMost-trans b.lo low over a.from low_over, IsAtMost-trans over high b.hi over_high a.to), refl)

          under_holds : Holds b (address under)
          under_holds = (under, (IsAtMost-trans b.lo low under a.from low_under, IsAtMost-trans under high b.hi under_high a.to), refl)

          -- each point that is left lies in one of the halves
          halves : (p : List ℕ) → IsAtMost low p → IsAtMost p high → IsAtMost p under ⊎ IsAtMost over p
          halves p lp ph =
              let ip : i < length p = let e = lp.0 in let n = i_low in omega arith in
              elim (cases_lt (slice_index p i) (middle (slice_index high i) c)) [
                | inl lt ↦ inl (rw under_is (IsAtMost-set_right p high i _ ph i_high (omega arith)))
                | inr le ↦ inr (rw over_is (IsAtMost-set_left low p i _ lp i_low le))
              ]

          -- 001: the address is in the lower half
          pub around_lower : bit_at z k ≡ 0 → IsAround b z k low under below (Some (address over))
          around_lower ez =
              let lt : z < address over = below_at z (address over) k (sym over_agrees) ez over_bit in
              let le : address over ≤ address high = address-mono d over high is_high over_high in
              let nearer : IfSome above (λ old. address over ≤ old) = some_weaker above _ _ (λ n f. let far = f.2 in omega arith) a.above_found in
              record {
                from = a.from;
                ordered = low_under;
                to = IsAtMost-trans under high b.hi under_high a.to;
                low_agrees = agree_more (address low) z k a.low_agrees (low_zero ∙ sym ez);
                high_agrees = agree_more (address under) z k under_agrees (under_bit ∙ sym ez);
                below_found = a.below_found;
                above_found = (over_holds, lt, under_lt_over);
                rest = λ p h. elim (a.rest p h) [
                  | inl in_both ↦ elim (halves p in_both.0 in_both.1) [
                    | inl pu ↦ inl (in_both.0, pu)
                    | inr op ↦ inr (inr (let mono = address-mono d over p (inside_point p h.1) op in (omega arith, omega arith)))
                  ]
                  | inr s ↦ inr (passed_above z (address over) (address p) below above nearer s)
                ];
              }

          -- 101: the address is in the upper half
          pub around_upper : bit_at z k ≡ 1 → IsAround b z k over high (Some (address under)) above
          around_upper ez =
              let lt : address under < z = below_at (address under) z k under_agrees under_bit ez in
              let le : address low ≤ address under = address-mono d low under is_under low_under in
              let nearer : IfSome below (λ old. old ≤ address under) = some_weaker below _ _ (λ n f. let far = f.2 in omega arith) a.below_found in
              record {
                from = IsAtMost-trans b.lo low over a.from low_over;
                ordered = over_high;
                to = a.to;
                low_agrees = agree_more (address over) z k over_agrees (over_bit ∙ sym ez);
                high_agrees = agree_more (address high) z k a.high_agrees (high_one ∙ sym ez);
                below_found = (under_holds, lt, under_lt_over);
                above_found = a.above_found;
                rest = λ p h. elim (a.rest p h) [
                  | inl in_both ↦ elim (halves p in_both.0 in_both.1) [
                    | inl pu ↦ inr (inl (let mono = address-mono d p under is_under pu in (omega arith, omega arith)))
                    | inr op ↦ inl (op, in_both.1)
                  ]
                  | inr s ↦ inr (passed_below z (address under) (address p) below above nearer s)
                ];
              }
