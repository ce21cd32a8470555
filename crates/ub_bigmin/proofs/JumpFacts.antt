-- A jump at the lowest place leads to the nearest address of the box.
use Rattle.std.proofs.Common.{◌≡◌, ◌≤◌, ◌<◌, ◌+◌, ◌-◌, ◌*◌, ◌/◌, ◌^◌, ℕ, zero, suc, List, length, slice_index, refl, sym, ap, ◌∙◌, arith, inl, inr}
use Rattle.std.specs.Int.{bit_at}
use Rattle.std.proofs.Math.Nat.{mul-le-mul_right, add-mul, div-eq_of_lt}
use Rattle.std.proofs.Math.Pow.{shr_mono}
use Rattle.std.proofs.lemmas.Bool.{cases_lt, cases_eq}
use Rattle.std.proofs.lemmas.Nat.{shr-shr}
use Rattle.std.proofs.lemmas.Nat.Bits.{bit_at-lt}
use Rattle.ub_zaddr.specs.Address.{address, place, IsPoint}
use Rattle.ub_zaddr.proofs.Laws.{is_place}
use Rattle.ub_bigmin.specs.Box.{Corners, IsInside, Holds, IsBox}
use Rattle.ub_bigmin.specs.Cells.{prefix}
use Rattle.ub_bigmin.specs.inner.Cells.{IsInCell, IsLeastPoint, IsGreatestPoint}
use Rattle.ub_bigmin.specs.Extremes.{IsLeastFrom, IsGreatestUpTo}
use Rattle.ub_bigmin.specs.Jumps.{IsJump, HasNoJump, IsLowestJump, IsNearestPoint, wide_place}
use Rattle.ub_bigmin.proofs.CutFacts.{shr_halves}
use Rattle.ub_bigmin.proofs.CellFacts.{inside_part, part_inside, part_met, least_in_part, greatest_in_part, least_at_most, at_most_greatest}
use Rattle.ub_bigmin.proofs.PointFacts.{IsPoint-below}
use Rattle.ub_bigmin.proofs.AddressOrder.{bit_at-address, address-below, address-mono}

-- ---- the highest place where two numbers differ

lt_from_shr : (a z k : ℕ) → a / 2 ^ k < z / 2 ^ k → a < z
lt_from_shr a z k h = elim (cases_lt a z) [
  | inl lt ↦ lt
  | inr le ↦ let m : z / 2 ^ k ≤ a / 2 ^ k = shr_mono k le in absurd (omega arith)
]

-- of two numbers that agree from bit n up, the greater has 1 and the less has 0 at the highest bit where they differ
pub top_place : (n a m : ℕ) → a < m → a / 2 ^ n ≡ m / 2 ^ n → (k : ℕ) × (k < n) × (bit_at a k ≡ 0) × (bit_at m k ≡ 1) × (a / 2 ^ (k + 1) ≡ m / 2 ^ (k + 1))
top_place zero a m lt e = absurd (omega arith)
top_place (suc n) a m lt e = elim (cases_eq (a / 2 ^ n) (m / 2 ^ n)) [
  | inl same ↦ let (k, k_in, zero_bit, one_bit, above) = top_place n a m lt same in (k, omega arith, zero_bit, one_bit, above)
  | inr other ↦
      let next : suc n ≡ n + 1 = omega arith in
      let above : a / 2 ^ (n + 1) ≡ m / 2 ^ (n + 1) = rw (sym next) e in
      let ha = shr_halves a n in let hm = shr_halves m n in
      let sa = bit_at-lt a n in let sm = bit_at-lt m n in
      let mono : a / 2 ^ n ≤ m / 2 ^ n = shr_mono n (omega arith) in
      let less : a / 2 ^ n < m / 2 ^ n = by_other (a / 2 ^ n) (m / 2 ^ n) other mono in
      (n, omega arith, omega arith, omega arith, above)
]
  where
    by_other : (x y : ℕ) → (x ≡ y → ⊥) → x ≤ y → x < y
    by_other x y other le = elim (cases_lt x y) [
      | inl lt ↦ lt
      | inr ge ↦ absurd (other (omega arith))
    ]

-- numbers that agree from a place up agree from each higher one up
same_above : (a b p k : ℕ) → p ≤ k → a / 2 ^ p ≡ b / 2 ^ p → a / 2 ^ k ≡ b / 2 ^ k
same_above a b p k le e =
    let split : p + (k - p) ≡ k = omega arith in
    ap (λ (n : ℕ). a / 2 ^ n) (sym split) ∙ sym (shr-shr a p (k - p)) ∙ ap (λ (n : ℕ). n / 2 ^ (k - p)) e ∙ shr-shr b p (k - p) ∙ ap (λ (n : ℕ). b / 2 ^ n) split

-- ---- the order of places

pub place_order : (d i j k b : ℕ) → i < d → j < d → d ≤ 4 → wide_place i k ≤ wide_place j b → place d i k ≤ place d j b
place_order d i j k b hi hj hd le = elim (cases_lt k b) [
  | inl more ↦ let room : (k + 1) * d ≤ b * d = mul-le-mul_right d (omega arith) in let split = add-mul k 1 d in omega arith
  | inr ge ↦ let same : k * d ≤ b * d = mul-le-mul_right d (omega arith) in omega arith
]

-- ---- nearest points

pub nearest_is_least : (b : Corners) (c q : List ℕ) (i k : ℕ) → i < length c → IsNearestPoint b c i k 1 q → IsLeastPoint b c i k 1 q
nearest_is_least b c q i k hi (long, at) = (
  long,
  elim (at i hi) [
    | inl own ↦ own.1
    | inr other ↦ absurd (other.0 refl)
  ],
  λ j hj other. elim (at j hj) [
    | inl own ↦ absurd (other own.0)
    | inr beside ↦ beside.1
  ],
)

pub nearest_is_greatest : (b : Corners) (c q : List ℕ) (i k : ℕ) → i < length c → IsNearestPoint b c i k 0 q → IsGreatestPoint b c i k 0 q
nearest_is_greatest b c q i k hi (long, at) = (
  long,
  elim (at i hi) [
    | inl own ↦ own.1
    | inr other ↦ absurd (other.0 refl)
  ],
  λ j hj other. elim (at j hj) [
    | inl own ↦ absurd (other own.0)
    | inr beside ↦ beside.1
  ],
)

-- ---- the nearest address

module _ (d : ℕ) (b : Corners) (c : List ℕ) (box : IsBox d b) (is_c : IsPoint d c) where
  -- a point of the box with a greater address lies in a cell of a jump up
  up_jump : (p : List ℕ) → IsInside b p → address c < address p
      → (i k : ℕ) × (i < d) × IsJump b c 1 i k × IsInCell (address c) (place d i k) 1 (address p)
  up_jump p inside lt =
      let is_p : IsPoint d p = IsPoint-below d p b.hi inside.1 box.hi in
      let none : address c / 2 ^ (32 * d) ≡ address p / 2 ^ (32 * d) = div-eq_of_lt (address-below d c is_c) ∙ sym (div-eq_of_lt (address-below d p is_p)) in
      let (t, t_in, zero_bit, one_bit, above) = top_place (32 * d) (address c) (address p) lt none in
      let (i, k, hi, hk, at) = is_place d t t_in in
      let halves = shr_halves (address p) t in
      let cell : IsInCell (address c) (place d i k) 1 (address p) = rw at (let e : address p / 2 ^ t ≡ prefix (address c) t 1 = omega arith in e) in
      let bit : bit_at (slice_index c i) k ≡ 0 = sym (bit_at-address d c i k is_c hi hk) ∙ ap (λ (n : ℕ). bit_at (address c) n) at ∙ zero_bit in
      (i, k, hi, (hk, omega arith, part_met d b c i k 1 box is_c hi hk (omega arith) p inside cell), cell)

  down_jump : (p : List ℕ) → IsInside b p → address p < address c
      → (i k : ℕ) × (i < d) × IsJump b c 0 i k × IsInCell (address c) (place d i k) 0 (address p)
  down_jump p inside lt =
      let is_p : IsPoint d p = IsPoint-below d p b.hi inside.1 box.hi in
      let none : address p / 2 ^ (32 * d) ≡ address c / 2 ^ (32 * d) = div-eq_of_lt (address-below d p is_p) ∙ sym (div-eq_of_lt (address-below d c is_c)) in
      let (t, t_in, zero_bit, one_bit, above) = top_place (32 * d) (address p) (address c) lt none in
      let (i, k, hi, hk, at) = is_place d t t_in in
      let halves = shr_halves (address p) t in
      let cell : IsInCell (address c) (place d i k) 0 (address p) = rw at (let e : address p / 2 ^ t ≡ prefix (address c) t 0 = omega arith in e) in
      let bit : bit_at (slice_index c i) k ≡ 1 = sym (bit_at-address d c i k is_c hi hk) ∙ ap (λ (n : ℕ). bit_at (address c) n) at ∙ one_bit in
      (i, k, hi, (hk, omega arith, part_met d b c i k 0 box is_c hi hk (omega arith) p inside cell), cell)

  -- where there is no jump and the box does not hold the address, all of the box is on the other side
  pub no_jump_up : (z : ℕ) → address c ≡ z → (Holds b z → ⊥) → HasNoJump b c 1 d → (m : ℕ) → Holds b m → m < z
  no_jump_up z e outside none m (p, inside, is) = elim (cases_lt (address c) (address p)) [
    | inl lt ↦ let (i, k, hi, jump, cell) = up_jump p inside lt in absurd (none i k hi jump)
    | inr le ↦ elim (cases_eq (address p) z) [
      | inl same ↦ absurd (outside (p, inside, same))
      | inr other ↦ elim (cases_lt m z) [
        | inl lt ↦ lt
        | inr ge ↦ absurd (other (omega arith))
      ]
    ]
  ]

  pub no_jump_down : (z : ℕ) → address c ≡ z → (Holds b z → ⊥) → HasNoJump b c 0 d → (m : ℕ) → Holds b m → z < m
  no_jump_down z e outside none m (p, inside, is) = elim (cases_lt (address p) (address c)) [
    | inl lt ↦ let (i, k, hi, jump, cell) = down_jump p inside lt in absurd (none i k hi jump)
    | inr le ↦ elim (cases_eq (address p) z) [
      | inl same ↦ absurd (outside (p, inside, same))
      | inr other ↦ elim (cases_lt z m) [
        | inl lt ↦ lt
        | inr ge ↦ absurd (other (omega arith))
      ]
    ]
  ]

  -- the bit of the address at a jump's place is the coordinate's
  bit_here : (i k n : ℕ) → i < d → k < 32 → bit_at (slice_index c i) k ≡ n → bit_at (address c) (place d i k) ≡ n
  bit_here i k n hi hk e = bit_at-address d c i k is_c hi hk ∙ e

  module _ (i k : ℕ) (q : List ℕ) (within : d ≤ 4) where
    -- no point of the box above has a less address than the nearest point of the lowest jump
    up_nearest : IsLowestJump b c 1 d i k → IsLeastPoint b c i k 1 q → IsInside b q → IsInCell (address c) (place d i k) 1 (address q)
        → (p : List ℕ) → IsInside b p → address c < address p → address q ≤ address p
    up_nearest (hi, (hk, bit, met), lowest) least inside cell p inside_p lt =
        let (i2, k2, hi2, jump, cell_p) = up_jump p inside_p lt in
        let is_p : IsPoint d p = IsPoint-below d p b.hi inside_p.1 box.hi in
        let order : place d i k ≤ place d i2 k2 = place_order d i i2 k k2 hi hi2 within (lowest i2 k2 hi2 jump) in
        elim (cases_lt (place d i k) (place d i2 k2)) [
          | inl less ↦
              let hq = shr_halves (address q) (place d i k) in
              let hc = shr_halves (address c) (place d i2 k2) in
              let sq = bit_at-lt (address q) (place d i k) in
              let zero_bit = bit_here i2 k2 0 hi2 jump.0 (let z0 = jump.1 in omega arith) in
              let above : address q / 2 ^ (place d i k + 1) ≡ address c / 2 ^ (place d i k + 1) = omega arith in
              let same : address q / 2 ^ place d i2 k2 ≡ address c / 2 ^ place d i2 k2 = same_above _ _ (place d i k + 1) (place d i2 k2) (omega arith) above in
              let far : address q < address p = lt_from_shr (address q) (address p) (place d i2 k2) (omega arith) in
              omega arith
          | inr ge ↦
              let one_place : place d i2 k2 ≡ place d i k = omega arith in
              let cell_here : IsInCell (address c) (place d i k) 1 (address p) = rw one_place at cell_p in
              let part = inside_part d b c i k 1 box is_c hi hk (omega arith) p inside_p cell_here in
              address-mono d q p is_p (least_at_most d b c i k 1 box is_c hi hk (omega arith) q p least part)
        ]

    down_nearest : IsLowestJump b c 0 d i k → IsGreatestPoint b c i k 0 q → IsInside b q → IsInCell (address c) (place d i k) 0 (address q)
        → (p : List ℕ) → IsInside b p → address p < address c → address p ≤ address q
    down_nearest (hi, (hk, bit, met), lowest) greatest inside cell p inside_p lt =
        let (i2, k2, hi2, jump, cell_p) = down_jump p inside_p lt in
        let is_q : IsPoint d q = IsPoint-below d q b.hi inside.1 box.hi in
        let order : place d i k ≤ place d i2 k2 = place_order d i i2 k k2 hi hi2 within (lowest i2 k2 hi2 jump) in
        elim (cases_lt (place d i k) (place d i2 k2)) [
          | inl less ↦
              let hq = shr_halves (address q) (place d i k) in
              let hc = shr_halves (address c) (place d i2 k2) in
              let sq = bit_at-lt (address q) (place d i k) in
              let one_bit = bit_here i2 k2 1 hi2 jump.0 (let z0 = jump.1 in omega arith) in
              let above : address q / 2 ^ (place d i k + 1) ≡ address c / 2 ^ (place d i k + 1) = omega arith in
              let same : address q / 2 ^ place d i2 k2 ≡ address c / 2 ^ place d i2 k2 = same_above _ _ (place d i k + 1) (place d i2 k2) (omega arith) above in
              let far : address p < address q = lt_from_shr (address p) (address q) (place d i2 k2) (omega arith) in
              omega arith
          | inr ge ↦
              let one_place : place d i2 k2 ≡ place d i k = omega arith in
              let cell_here : IsInCell (address c) (place d i k) 0 (address p) = rw one_place at cell_p in
              let part = inside_part d b c i k 0 box is_c hi hk (omega arith) p inside_p cell_here in
              address-mono d p q is_q (at_most_greatest d b c i k 0 box is_c hi hk (omega arith) q p greatest part)
        ]

    module _ (z : ℕ) (e : address c ≡ z) (outside : Holds b z → ⊥) where
      not_at : (m : ℕ) → Holds b m → m ≡ z → ⊥
      not_at m holds same = outside (rw (sym same) holds)

      pub jump_up : IsLowestJump b c 1 d i k → IsNearestPoint b c i k 1 q → IsLeastFrom (Holds b) z (address q)
      jump_up jump nearest =
          let (hi, (hk, bit, met), lowest) = jump in
          let long = is_c.0 in
          let least = nearest_is_least b c q i k (omega arith) nearest in
          let part = least_in_part d b c i k 1 box is_c hi hk (omega arith) met q least in
          let (inside, cell) = part_inside d b c i k 1 box is_c hi hk (omega arith) q part in
          let halves = shr_halves (address c) (place d i k) in
          let zero_bit = bit_here i k 0 hi hk (omega arith) in
          let above : address c < address q = lt_from_shr (address c) (address q) (place d i k) (omega arith) in (
            (q, inside, refl),
            omega arith,
            λ m holds from. let (p, inside_p, is) = holds in
                let nearer = up_nearest jump least inside cell p inside_p in
                let apart = not_at m holds in
                elim (cases_lt (address c) (address p)) [
                  | inl lt ↦ let le = nearer lt in omega arith
                  | inr ge ↦ absurd (apart (omega arith))
                ],
          )

      pub jump_down : IsLowestJump b c 0 d i k → IsNearestPoint b c i k 0 q → IsGreatestUpTo (Holds b) z (address q)
      jump_down jump nearest =
          let (hi, (hk, bit, met), lowest) = jump in
          let long = is_c.0 in
          let greatest = nearest_is_greatest b c q i k (omega arith) nearest in
          let part = greatest_in_part d b c i k 0 box is_c hi hk (omega arith) met q greatest in
          let (inside, cell) = part_inside d b c i k 0 box is_c hi hk (omega arith) q part in
          let halves = shr_halves (address c) (place d i k) in
          let one_bit = bit_here i k 1 hi hk (omega arith) in
          let below : address q < address c = lt_from_shr (address q) (address c) (place d i k) (omega arith) in (
            (q, inside, refl),
            omega arith,
            λ m holds to. let (p, inside_p, is) = holds in
                let nearer = down_nearest jump greatest inside cell p inside_p in
                let apart = not_at m holds in
                elim (cases_lt (address p) (address c)) [
                  | inl lt ↦ let le = nearer lt in omega arith
                  | inr ge ↦ absurd (apart (omega arith))
                ],
          )
