-- What the operations on whole words are in numbers: the bits where two numbers differ, the lowest bit of a kind, and the
-- lowest bit of a number to turn.
use Rattle.std.proofs.Common.{min, ◌≡◌, ◌≤◌, ◌<◌, ◌+◌, ◌-◌, ◌*◌, ◌/◌, ◌%◌, ◌^◌, ℕ, max, ◌↔◌, sym, ap, ◌∙◌, arith, ◌⊎◌, inl, inr, Some, None, bit_xor}
use Rattle.std.specs.Int.{bit_at, bit_not, trailing_zeros, w32}
use Rattle.std.specs.Int.Count.{count_leading_zeros, trailing_of_zero}
use Rattle.std.proofs.Math.Nat.{div-le_self}
use Rattle.std.proofs.Math.Pow.{shr_mono, pow_mono}
use Rattle.std.proofs.lemmas.Bool.{cases_lt, cases_eq}
use Rattle.std.proofs.lemmas.Nat.{pow-add, leading_length, leading_le}
use Rattle.std.proofs.lemmas.Nat.Bits.{bit_at-lt, bit_at-zero, bit_at-trailing_zeros, bit_at_not}
use Rattle.ub_bigmin.specs.Cells.{IsNeed}
use Rattle.ub_bigmin.specs.Extremes.{Least}
use Rattle.ub_bigmin.specs.Jumps.{IsOwnJump}
use Rattle.ub_bigmin.proofs.CutFacts.{shr_halves}
use Rattle.ub_bigmin.proofs.CellFacts.{own_above, own_below}
use Rattle.ub_zaddr.proofs.Laws.{bit_of_shift, same_xor, xor_same}

-- ---- where two numbers differ

-- so many leading zeros say below which power a number is
length_is : (n f r : ℕ) → n < 2 ^ 32 → r + count_leading_zeros 32 n ≡ 32 → (r ≤ f) ↔ (n < 2 ^ f)
length_is n f r small e =
    let (m, whole, below, from) = leading_length 32 n small in
    let same : r ≡ m = omega arith in (
      λ le. let p : 2 ^ m ≤ 2 ^ f = pow_mono {i = m} {j = f} (omega arith) in omega arith,
      λ lt. elim (cases_lt f r) [
        | inl more ↦ let p : 2 ^ (1 + f) ≤ 2 ^ m = pow_mono {i = 1 + f} {j = m} (omega arith) in let double : 2 ^ (1 + f) ≡ 2 * 2 ^ f = pow-add 2 1 f in absurd (omega arith)
        | inr le ↦ le
      ],
    )

pub agree_bits : (a b r f : ℕ) → a < 2 ^ 32 → b < 2 ^ 32 → r + count_leading_zeros 32 (bit_xor a b) ≡ 32 → (r ≤ f) ↔ (a / 2 ^ f ≡ b / 2 ^ f)
agree_bits a b r f sa sb e =
    let na : a / 2 ^ 32 ≡ b / 2 ^ 32 = omega arith in
    let small = xor_same a b 32 na in
    let is = length_is (bit_xor a b) f r small e in
    (λ le. same_xor a b f (is.0 le), λ same. is.1 (xor_same a b f same))

pub need_low : (low high x n : ℕ) → low ≤ high → x < low → ((f : ℕ) → (n ≤ f) ↔ (x / 2 ^ f ≡ low / 2 ^ f)) → IsNeed low high x n
need_low low high x n ordered lt agree f =
    let p : x / 2 ^ f ≤ low / 2 ^ f = shr_mono f (omega arith) in
    let q : low / 2 ^ f ≤ high / 2 ^ f = shr_mono f ordered in (
      λ le. let e = (agree f).0 le in (omega arith, omega arith),
      λ h. (agree f).1 (let s = h.0 in omega arith),
    )

pub need_high : (low high x n : ℕ) → low ≤ high → high < x → ((f : ℕ) → (n ≤ f) ↔ (x / 2 ^ f ≡ high / 2 ^ f)) → IsNeed low high x n
need_high low high x n ordered lt agree f =
    let p : high / 2 ^ f ≤ x / 2 ^ f = shr_mono f (omega arith) in
    let q : low / 2 ^ f ≤ high / 2 ^ f = shr_mono f ordered in (
      λ le. let e = (agree f).0 le in (omega arith, omega arith),
      λ h. (agree f).1 (let s = h.1 in omega arith),
    )

-- both at once, by the number of the range that is nearest
pub need_nearest : (low high x m n : ℕ) → low ≤ high → m ≡ min (max x low) high → ((f : ℕ) → (n ≤ f) ↔ (x / 2 ^ f ≡ m / 2 ^ f)) → IsNeed low high x n
need_nearest low high x m n ordered is agree = elim (cases_lt x low) [
  | inl lt ↦ need_low low high x n ordered lt (rw (let e : m ≡ low = omega arith in e) at agree)
  | inr from ↦ elim (cases_lt high x) [
    | inl lt ↦ need_high low high x n ordered lt (rw (let e : m ≡ high = omega arith in e) at agree)
    | inr to ↦ λ f. (λ le. (shr_mono f from, shr_mono f to), λ h. (agree f).1 (ap (λ (y : ℕ). y / 2 ^ f) (let e : x ≡ m = omega arith in e)))
  ]
]

-- each number of 32 bits needs so many free bits
pub need_exists : (low high x : ℕ) → low ≤ high → high < 2 ^ 32 → x < 2 ^ 32 → (n : ℕ) × IsNeed low high x n
need_exists low high x ordered small_high small = elim (cases_lt x low) [
  | inl lt ↦ let (n, agree) = differ low (omega arith) in (n, need_low low high x n ordered lt agree)
  | inr from ↦ elim (cases_lt high x) [
    | inl lt ↦ let (n, agree) = differ high small_high in (n, need_high low high x n ordered lt agree)
    | inr to ↦ (0, λ f. (λ le. (shr_mono f from, shr_mono f to), λ h. omega arith))
  ]
]
  where
    differ : (y : ℕ) → y < 2 ^ 32 → (n : ℕ) × ((f : ℕ) → (n ≤ f) ↔ (x / 2 ^ f ≡ y / 2 ^ f))
    differ y sy =
        let le = leading_le 32 (bit_xor x y) in
        (32 - count_leading_zeros 32 (bit_xor x y), λ f. agree_bits x y _ f small sy (omega arith))

-- ---- the lowest bit that is 1

zero_or_more : (n : ℕ) → (n ≡ 0) ⊎ (0 < n)
zero_or_more n = elim (cases_lt 0 n) [
  | inl lt ↦ inr lt
  | inr le ↦ inl (omega arith)
]

pub lowest_one_is : (x from r : ℕ) → x < 2 ^ 32 → r ≡ from + trailing_zeros w32 (x / 2 ^ from) → r < 32 → bit_at x r ≡ 1
lowest_one_is x from r small e lt = elim (zero_or_more (x / 2 ^ from)) [
  | inl none ↦ let all : trailing_zeros w32 (x / 2 ^ from) ≡ 32 = ap (λ (n : ℕ). trailing_zeros w32 n) none ∙ trailing_of_zero 32 in absurd (omega arith)
  | inr some ↦ let less : x / 2 ^ from ≤ x = div-le_self x (2 ^ from) in
      let (within, one, lowest) = bit_at-trailing_zeros w32 (x / 2 ^ from) some (omega arith) in
      ap (λ (n : ℕ). bit_at x n) e ∙ sym (bit_of_shift x from _) ∙ one
]

pub lowest_one_first : (x from r k : ℕ) → x < 2 ^ 32 → r ≡ from + trailing_zeros w32 (x / 2 ^ from) → from ≤ k → bit_at x k ≡ 1 → r ≤ k
lowest_one_first x from r k small e le bit =
    let split : from + (k - from) ≡ k = omega arith in
    let here : bit_at (x / 2 ^ from) (k - from) ≡ 1 = bit_of_shift x from (k - from) ∙ ap (λ (n : ℕ). bit_at x n) split ∙ bit in
    elim (zero_or_more (x / 2 ^ from)) [
      | inl none ↦ let z : bit_at (x / 2 ^ from) (k - from) ≡ 0 = ap (λ (n : ℕ). bit_at n (k - from)) none ∙ bit_at-zero (k - from) in absurd (omega arith)
      | inr some ↦ let less : x / 2 ^ from ≤ x = div-le_self x (2 ^ from) in
          let (within, one, lowest) = bit_at-trailing_zeros w32 (x / 2 ^ from) some (omega arith) in
          elim (cases_lt (k - from) (trailing_zeros w32 (x / 2 ^ from))) [
            | inl lt ↦ let z = lowest (k - from) lt in absurd (omega arith)
            | inr ge ↦ omega arith
          ]
    ]

-- ---- the lowest bit to turn

-- a number that is not below the range has nowhere to jump up to, and one that is not above it nowhere down
pub no_rise : (low high x floor : ℕ) → high ≤ x → Least (IsOwnJump low high x floor 1) None
no_rise low high x floor le k (within, bit, from, met) =
    let own = (own_above low high x k (omega arith)).0 met in
    let top = own.1 in
    let p : high / 2 ^ k ≤ x / 2 ^ k = shr_mono k le in
    omega arith

pub no_fall : (low high x floor : ℕ) → x ≤ low → Least (IsOwnJump low high x floor 0) None
no_fall low high x floor le k (within, bit, from, met) =
    let own = (own_below low high x k (omega arith)).0 met in
    let top = own.0 in
    let p : x / 2 ^ k ≤ low / 2 ^ k = shr_mono k le in
    omega arith

module _ (low high x floor n from : ℕ) (ordered : low ≤ high) (need : IsNeed low high x n) (from_is : from ≡ max floor (n - 1)) where
  -- a jump up is from the floor and what the number needs, and where the range's end differs
  rise_from : (k : ℕ) → IsOwnJump low high x floor 1 k → (from ≤ k) × (x / 2 ^ k < high / 2 ^ k) × (bit_at x k ≡ 0)
  rise_from k (within, bit, floor_le, met) =
      let start = from_is in
      let zero_bit : bit_at x k ≡ 0 = omega arith in
      let (lift, top) = (own_above low high x k zero_bit).0 met in
      let hx = shr_halves x k in let hh = shr_halves high k in
      let sx = bit_at-lt x k in let sh = bit_at-lt high k in
      let le : n ≤ k + 1 = (need (k + 1)).1 (lift, omega arith) in
      (omega arith, top, zero_bit)

  pub no_rise_past : (t : ℕ) → ((k : ℕ) → (t ≤ k) ↔ (x / 2 ^ k ≡ high / 2 ^ k)) → t ≤ from → Least (IsOwnJump low high x floor 1) None
  no_rise_past t agree le k jump = let (late, top, bit) = rise_from k jump in let e = (agree k).0 (omega arith) in omega arith

  pub rise_is : (t r : ℕ) → x < high → high < 2 ^ 32 → t ≤ 32 → ((k : ℕ) → (t ≤ k) ↔ (x / 2 ^ k ≡ high / 2 ^ k)) → from < t
      → from ≤ r → (r < 32 → bit_at (bit_not w32 x) r ≡ 1) → ((k : ℕ) → from ≤ k → bit_at (bit_not w32 x) k ≡ 1 → r ≤ k)
      → Least (IsOwnJump low high x floor 1) (Some r)
  rise_is t r lt small t_in agree past start one first =
      let floor_le = from_is in
      let flip : (k : ℕ) → k < 32 → bit_at (bit_not w32 x) k ≡ 1 - bit_at x k = λ k hk. bit_at_not w32 x k (omega arith) hk in
      let back : t - 1 + 1 ≡ t = omega arith in
      let e : x / 2 ^ (t - 1 + 1) ≡ high / 2 ^ (t - 1 + 1) = rw back ((agree t).0 (omega arith)) in
      let hx = shr_halves x (t - 1) in let hh = shr_halves high (t - 1) in
      let mono : x / 2 ^ (t - 1) ≤ high / 2 ^ (t - 1) = shr_mono (t - 1) (omega arith) in
      let sh = bit_at-lt high (t - 1) in
      let sx = bit_at-lt x (t - 1) in
      let zero_bit : bit_at x (t - 1) ≡ 0 = elim (cases_eq (x / 2 ^ (t - 1)) (high / 2 ^ (t - 1))) [
        | inl same ↦ let bad = (agree (t - 1)).1 same in absurd (omega arith)
        | inr other ↦ elim (cases_eq (bit_at x (t - 1)) 0) [
          | inl z ↦ z
          | inr o ↦ absurd (other (omega arith))
        ]
      ] in
      let here : bit_at (bit_not w32 x) (t - 1) ≡ 1 = flip (t - 1) (omega arith) ∙ ap (λ (b : ℕ). 1 - b) zero_bit in
      let below : r ≤ t - 1 = first (t - 1) (omega arith) here in
      let r_in : r < 32 = omega arith in
      let flipped = flip r r_in in
      let set = one r_in in
      let r_zero : bit_at x r ≡ 0 = (let s = bit_at-lt x r in omega arith) in
      let r_mono : x / 2 ^ r ≤ high / 2 ^ r = shr_mono r (omega arith) in
      let top : x / 2 ^ r < high / 2 ^ r = elim (cases_eq (x / 2 ^ r) (high / 2 ^ r)) [
        | inl same ↦ let bad = (agree r).1 same in absurd (omega arith)
        | inr other ↦ by_other (x / 2 ^ r) (high / 2 ^ r) other r_mono
      ] in
      let lift : low / 2 ^ (r + 1) ≤ x / 2 ^ (r + 1) = ((need (r + 1)).0 (omega arith)).0 in (
        (r_in, omega arith, omega arith, (own_above low high x r r_zero).1 (lift, top)),
        λ k jump. let (k_from, k_top, k_zero) = rise_from k jump in
            first k k_from (flip k jump.0 ∙ ap (λ (b : ℕ). 1 - b) k_zero),
      )
    where
      by_other : (a b : ℕ) → (a ≡ b → ⊥) → a ≤ b → a < b
      by_other a b other le = elim (cases_lt a b) [
        | inl lt ↦ lt
        | inr ge ↦ absurd (other (omega arith))
      ]

  -- a jump down is from the floor and what the number needs, and where the range's end differs
  fall_from : (k : ℕ) → IsOwnJump low high x floor 0 k → (from ≤ k) × (low / 2 ^ k < x / 2 ^ k) × (bit_at x k ≡ 1)
  fall_from k (within, bit, floor_le, met) =
      let start = from_is in
      let one_bit : bit_at x k ≡ 1 = omega arith in
      let (top, sink) = (own_below low high x k one_bit).0 met in
      let hx = shr_halves x k in let hl = shr_halves low k in
      let sx = bit_at-lt x k in let sl = bit_at-lt low k in
      let le : n ≤ k + 1 = (need (k + 1)).1 (omega arith, sink) in
      (omega arith, top, one_bit)

  pub no_fall_past : (t : ℕ) → ((k : ℕ) → (t ≤ k) ↔ (low / 2 ^ k ≡ x / 2 ^ k)) → t ≤ from → Least (IsOwnJump low high x floor 0) None
  no_fall_past t agree le k jump = let (late, top, bit) = fall_from k jump in let e = (agree k).0 (omega arith) in omega arith

  pub fall_is : (t r : ℕ) → low < x → x < 2 ^ 32 → t ≤ 32 → ((k : ℕ) → (t ≤ k) ↔ (low / 2 ^ k ≡ x / 2 ^ k)) → from < t
      → from ≤ r → (r < 32 → bit_at x r ≡ 1) → ((k : ℕ) → from ≤ k → bit_at x k ≡ 1 → r ≤ k)
      → Least (IsOwnJump low high x floor 0) (Some r)
  fall_is t r lt small t_in agree past start one first =
      let floor_le = from_is in
      let back : t - 1 + 1 ≡ t = omega arith in
      let e : low / 2 ^ (t - 1 + 1) ≡ x / 2 ^ (t - 1 + 1) = rw back ((agree t).0 (omega arith)) in
      let hx = shr_halves x (t - 1) in let hl = shr_halves low (t - 1) in
      let mono : low / 2 ^ (t - 1) ≤ x / 2 ^ (t - 1) = shr_mono (t - 1) (omega arith) in
      let sl = bit_at-lt low (t - 1) in
      let sx = bit_at-lt x (t - 1) in
      let one_bit : bit_at x (t - 1) ≡ 1 = elim (cases_eq (low / 2 ^ (t - 1)) (x / 2 ^ (t - 1))) [
        | inl same ↦ let bad = (agree (t - 1)).1 same in absurd (omega arith)
        | inr other ↦ elim (cases_eq (bit_at x (t - 1)) 1) [
          | inl z ↦ z
          | inr o ↦ absurd (other (omega arith))
        ]
      ] in
      let below : r ≤ t - 1 = first (t - 1) (omega arith) one_bit in
      let r_in : r < 32 = omega arith in
      let r_one : bit_at x r ≡ 1 = one r_in in
      let r_mono : low / 2 ^ r ≤ x / 2 ^ r = shr_mono r (omega arith) in
      let top : low / 2 ^ r < x / 2 ^ r = elim (cases_eq (low / 2 ^ r) (x / 2 ^ r)) [
        | inl same ↦ let bad = (agree r).1 same in absurd (omega arith)
        | inr other ↦ by_other (low / 2 ^ r) (x / 2 ^ r) other r_mono
      ] in
      let sink : x / 2 ^ (r + 1) ≤ high / 2 ^ (r + 1) = ((need (r + 1)).0 (omega arith)).1 in (
        (r_in, omega arith, omega arith, (own_below low high x r r_one).1 (top, sink)),
        λ k jump. let (k_from, k_top, k_one) = fall_from k jump in first k k_from k_one,
      )
    where
      by_other : (a b : ℕ) → (a ≡ b → ⊥) → a ≤ b → a < b
      by_other a b other le = elim (cases_lt a b) [
        | inl lt ↦ lt
        | inr ge ↦ absurd (other (omega arith))
      ]

-- the same by the greater of the number and the range's end, which is the number where there is nowhere to jump up to
module _ (low high x floor n from m t : ℕ) (ordered : low ≤ high) (need : IsNeed low high x n) (from_is : from ≡ max floor (n - 1)) where
  up_to : m ≡ max x high → ((k : ℕ) → (t ≤ k) ↔ (x / 2 ^ k ≡ m / 2 ^ k)) → x < high → (k : ℕ) → (t ≤ k) ↔ (x / 2 ^ k ≡ high / 2 ^ k)
  up_to is agree lt = rw (let e : m ≡ high = omega arith in e) at agree

  pub rise_none : m ≡ max x high → ((k : ℕ) → (t ≤ k) ↔ (x / 2 ^ k ≡ m / 2 ^ k)) → t ≤ from → Least (IsOwnJump low high x floor 1) None
  rise_none is agree le = elim (cases_lt x high) [
    | inl lt ↦ no_rise_past low high x floor n from ordered need from_is t (up_to is agree lt) le
    | inr ge ↦ no_rise low high x floor ge
  ]

  pub rise_some : (r : ℕ) → m ≡ max x high → high < 2 ^ 32 → t ≤ 32 → ((k : ℕ) → (t ≤ k) ↔ (x / 2 ^ k ≡ m / 2 ^ k)) → from < t
      → from ≤ r → (r < 32 → bit_at (bit_not w32 x) r ≡ 1) → ((k : ℕ) → from ≤ k → bit_at (bit_not w32 x) k ≡ 1 → r ≤ k)
      → Least (IsOwnJump low high x floor 1) (Some r)
  rise_some r is small t_in agree past start one first = elim (cases_lt x high) [
    | inl lt ↦ rise_is low high x floor n from ordered need from_is t r lt small t_in (up_to is agree lt) past start one first
    | inr ge ↦ let none : t ≤ 0 = (agree 0).1 (ap (λ (y : ℕ). y / 2 ^ 0) (let e : x ≡ m = omega arith in e)) in absurd (omega arith)
  ]

  down_to : m ≡ min x low → ((k : ℕ) → (t ≤ k) ↔ (m / 2 ^ k ≡ x / 2 ^ k)) → low < x → (k : ℕ) → (t ≤ k) ↔ (low / 2 ^ k ≡ x / 2 ^ k)
  down_to is agree lt = rw (let e : m ≡ low = omega arith in e) at agree

  pub fall_none : m ≡ min x low → ((k : ℕ) → (t ≤ k) ↔ (m / 2 ^ k ≡ x / 2 ^ k)) → t ≤ from → Least (IsOwnJump low high x floor 0) None
  fall_none is agree le = elim (cases_lt low x) [
    | inl lt ↦ no_fall_past low high x floor n from ordered need from_is t (down_to is agree lt) le
    | inr ge ↦ no_fall low high x floor ge
  ]

  pub fall_some : (r : ℕ) → m ≡ min x low → x < 2 ^ 32 → t ≤ 32 → ((k : ℕ) → (t ≤ k) ↔ (m / 2 ^ k ≡ x / 2 ^ k)) → from < t
      → from ≤ r → (r < 32 → bit_at x r ≡ 1) → ((k : ℕ) → from ≤ k → bit_at x k ≡ 1 → r ≤ k)
      → Least (IsOwnJump low high x floor 0) (Some r)
  fall_some r is small t_in agree past start one first = elim (cases_lt low x) [
    | inl lt ↦ fall_is low high x floor n from ordered need from_is t r lt small t_in (down_to is agree lt) past start one first
    | inr ge ↦ let none : t ≤ 0 = (agree 0).1 (ap (λ (y : ℕ). y / 2 ^ 0) (let e : m ≡ x = omega arith in e)) in absurd (omega arith)
  ]
