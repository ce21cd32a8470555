-- A span of addresses in two halves, and the part of a box in each.
use Rattle.std.proofs.Common.{◌≡◌, ◌≤◌, ◌<◌, ◌+◌, ◌-◌, ◌*◌, ◌/◌, ◌%◌, ◌^◌, ℕ, suc, sym, ap, ◌∙◌, arith, inl, inr, Fits}
use Rattle.std.specs.Int.{bit_at, w128}
use Rattle.std.specs.Int.Bits.{bit_xor}
use Rattle.std.specs.Int.Count.{count_leading_zeros}
use Rattle.std.proofs.Math.Nat.{div-lt_iff_lt-mul, div-eq_of_lt}
use Rattle.std.proofs.Math.Facts.{Fits-lt-pow}
use Rattle.std.proofs.Math.Pow.{shr_mono, pow_mono}
use Rattle.std.proofs.lemmas.Bool.{cases_lt}
use Rattle.std.proofs.lemmas.Nat.{pow_pos, xor_shr, xor_lt, leading_top, pow-add, shl-shr}
use Rattle.std.proofs.lemmas.Nat.Bits.{bit_at-lt, bit_at-zero, bit_at_xor, same_from_bits}
use Rattle.ub_bigmin.specs.Halves.{IsHalvedAt}
use Rattle.ub_bigmin.proofs.CutFacts.{shr_halves}

-- ---- the place at which a span falls apart

xor_same : (a b : ℕ) → bit_xor a b ≡ 0 → a ≡ b
xor_same a b h = same_from_bits a b (λ i.
    let sum : (bit_at a i + bit_at b i) % 2 ≡ 0 = sym (bit_at_xor a b i) ∙ ap (λ (x : ℕ). bit_at x i) h ∙ bit_at-zero i in
    let la = bit_at-lt a i in let lb = bit_at-lt b i in
    omega arith)

-- the highest bit of a number
top_bit : (x j : ℕ) → 2 ^ j ≤ x → x < 2 ^ suc j → bit_at x j ≡ 1
top_bit x j low high =
    let pos = pow_pos j in
    let power : 2 ^ suc j ≡ 2 * 2 ^ j = ap (λ (n : ℕ). 2 ^ n) (let e : suc j ≡ 1 + j = omega arith in e) ∙ pow-add 2 1 j in
    let less : x / 2 ^ j < 2 = (div-lt_iff_lt-mul pos).1 (omega arith) in
    let one : 2 ^ j / 2 ^ j ≡ 1 = ap (λ (n : ℕ). n / 2 ^ j) (let e : 2 ^ j ≡ 1 * 2 ^ j = omega arith in e) ∙ shl-shr 1 j in
    let more : 2 ^ j / 2 ^ j ≤ x / 2 ^ j = shr_mono j low in
    let y : ℕ = x / 2 ^ j in
    let is : y ≡ 1 = omega arith in
    ap (λ (n : ℕ). n % 2) is

pub halved_at : (from to j : ℕ) → from ≤ to → 2 ^ j ≤ bit_xor from to → bit_xor from to < 2 ^ suc j → IsHalvedAt from to j
halved_at from to j le low high =
    let above : from / 2 ^ suc j ≡ to / 2 ^ suc j = xor_same (from / 2 ^ suc j) (to / 2 ^ suc j) (sym (xor_shr from to (suc j)) ∙ div-eq_of_lt high) in
    let up : suc j ≡ j + 1 = omega arith in
    let above' : from / 2 ^ (j + 1) ≡ to / 2 ^ (j + 1) = rw up at above in
    let f = shr_halves from j in let t = shr_halves to j in
    let lf = bit_at-lt from j in let lt = bit_at-lt to j in
    let odd : (bit_at from j + bit_at to j) % 2 ≡ 1 = sym (bit_at_xor from to j) ∙ top_bit (bit_xor from to) j low high in
    record {
      ordered = le;
      near = omega arith;
      one = λ e. absurd (let same : bit_at from j ≡ bit_at to j = omega arith in omega arith);
    }

-- as the code computes it
module _ (from to : ℕ) (hf : Fits w128 from) (ht : Fits w128 to) (apart : from ≡ to → ⊥) where
  positive : 0 < bit_xor from to
  positive = elim (cases_lt 0 (bit_xor from to)) [
    | inl lt ↦ lt
    | inr le ↦ absurd (apart (xor_same from to (omega arith)))
  ]

  top : (j : ℕ) × (count_leading_zeros 128 (bit_xor from to) + suc j ≡ 128) × (2 ^ j ≤ bit_xor from to) × (bit_xor from to < 2 ^ suc j)
  top = leading_top 128 (bit_xor from to) positive (xor_lt 128 from to (Fits-lt-pow hf) (Fits-lt-pow ht))

  pub halved_apart : from ≤ to → IsHalvedAt from to (127 - count_leading_zeros 128 (bit_xor from to))
  halved_apart le =
      let (j, sum, low, high) = top in
      let e : 127 - count_leading_zeros 128 (bit_xor from to) ≡ j = omega arith in
      rw e (halved_at from to j le low high)

  pub places_count : (count_leading_zeros 128 (bit_xor from to) ≤ 127)
      × (from ≤ to → (n : ℕ) → to < 2 ^ n → 127 - count_leading_zeros 128 (bit_xor from to) ≤ n)
  places_count =
      let (j, sum, low, high) = top in (
        omega arith,
        λ le n lt. elim (cases_lt n j) [
          | inl less ↦
              let room : 2 ^ n ≤ 2 ^ j = pow_mono {i = n} {j = j} (omega arith) in
              let both : bit_xor from to < 2 ^ n = xor_lt n from to (omega arith) lt in
              absurd (omega arith)
          | inr more ↦ omega arith
        ],
      )
