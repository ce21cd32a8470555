-- Arithmetic on one number that is read from a bit up, and cut at a bit.
use Rattle.std.proofs.Common.{◌≡◌, ◌≤◌, ◌<◌, ◌+◌, ◌-◌, ◌*◌, ◌/◌, ◌%◌, ◌^◌, ℕ, zero, suc, sym, ap, ◌∙◌, arith, ◌⊎◌, inl, inr}
use Rattle.std.specs.Int.{bit_at}
use Rattle.ub_bigmin.specs.Middle.{middle}
use Rattle.std.proofs.Math.Nat.{div-mul-le_self, div-lt_iff_lt-mul, mod-eq_of_lt}
use Rattle.std.proofs.Math.Pow.{shr_mono}
use Rattle.std.proofs.lemmas.Nat.Bits.{bit_at-zero}
use Rattle.std.proofs.lemmas.Nat.{pow_pos, shr-shr, shl-shr, div-mul-add}

-- a number from place k up is twice that from the next place, and the bit at k
pub shr_halves : (x k : ℕ) → x / 2 ^ k ≡ 2 * (x / 2 ^ (k + 1)) + bit_at x k
shr_halves x k =
    let e : x / 2 ^ (k + 1) ≡ x / 2 ^ k / 2 = sym (shr-shr x k 1) in
    let y : ℕ = x / 2 ^ k in
    rw e (omega arith)

-- numbers that agree above place k and at it agree from it up
pub agree_more : (a z k : ℕ) → a / 2 ^ (k + 1) ≡ z / 2 ^ (k + 1) → bit_at a k ≡ bit_at z k → a / 2 ^ k ≡ z / 2 ^ k
agree_more a z k above here =
    let p = shr_halves a k in
    let q = shr_halves z k in
    omega arith

lt_from_shr : (a z k : ℕ) → a / 2 ^ k < z / 2 ^ k → a < z
lt_from_shr a z k h = by_order (le_cases z a)
  where
    le_cases : (m n : ℕ) → (m ≤ n) ⊎ (n < m)
    le_cases m n = grind arith

    by_order : (z ≤ a) ⊎ (a < z) → a < z
    by_order (inl le) = let m : z / 2 ^ k ≤ a / 2 ^ k = shr_mono k le in absurd (omega arith)
    by_order (inr lt) = lt

-- of numbers that agree above place k, the one with 0 there is less than the one with 1
pub below_at : (a z k : ℕ) → a / 2 ^ (k + 1) ≡ z / 2 ^ (k + 1) → bit_at a k ≡ 0 → bit_at z k ≡ 1 → a < z
below_at a z k above low high =
    let p = shr_halves a k in
    let q = shr_halves z k in
    lt_from_shr a z k (omega arith)

-- what lies between numbers that agree from place k up agrees with them
pub agree_between : (a x b c k : ℕ) → a ≤ x → x ≤ b → a / 2 ^ k ≡ c → b / 2 ^ k ≡ c → x / 2 ^ k ≡ c
agree_between a x b c k low high ea eb =
    let p : a / 2 ^ k ≤ x / 2 ^ k = shr_mono k low in
    let q : x / 2 ^ k ≤ b / 2 ^ k = shr_mono k high in
    omega arith

pub middle-le : (x b : ℕ) → middle x b ≤ x
middle-le x b = div-mul-le_self x (2 ^ b)

-- a number with 0 at the bit, of a range whose upper end has 1 there, is below the middle
pub middle_above : (a x b : ℕ) → a ≤ x → bit_at a b ≡ 0 → bit_at x b ≡ 1 → a < middle x b
middle_above a x b le low high =
    let p : a / 2 ^ b ≤ x / 2 ^ b = shr_mono b le in
    let lt : a / 2 ^ b < x / 2 ^ b = differ (a / 2 ^ b) (x / 2 ^ b) p low high in
    (div-lt_iff_lt-mul (pow_pos b)).0 lt
  where
    differ : (m n : ℕ) → m ≤ n → m % 2 ≡ 0 → n % 2 ≡ 1 → m < n
    differ m n p low high = omega arith

pub bit_at-middle : (x b : ℕ) → bit_at (middle x b) b ≡ bit_at x b
bit_at-middle x b = ap (λ (n : ℕ). n % 2) (shl-shr (x / 2 ^ b) b)

-- the number just below the middle has 0 at the bit
pub bit_at-below_middle : (x b : ℕ) → bit_at x b ≡ 1 → bit_at (middle x b - 1) b ≡ 0
bit_at-below_middle x b high =
    let q : ℕ = x / 2 ^ b in
    let w : ℕ = 2 ^ b in
    let e : middle x b - 1 ≡ (q - 1) * w + (w - 1) = last_below q w (pow_pos b) (odd_pos q high) in
    let d : ((q - 1) * w + (w - 1)) / w ≡ q - 1 = div-mul-add (q - 1) w (w - 1) (less w (pow_pos b)) in
    ap (λ (n : ℕ). n / 2 ^ b % 2) e ∙ ap (λ (n : ℕ). n % 2) d ∙ even_before q high
  where
    odd_pos : (q : ℕ) → q % 2 ≡ 1 → 0 < q
    odd_pos q h = omega arith

    less : (w : ℕ) → 0 < w → w - 1 < w
    less w h = omega arith

    even_before : (q : ℕ) → q % 2 ≡ 1 → (q - 1) % 2 ≡ 0
    even_before q h = omega arith

    last_below : (q w : ℕ) → 0 < w → 0 < q → q * w - 1 ≡ (q - 1) * w + (w - 1)
    last_below (suc r) w pw pq = grind arith
    last_below zero w pw pq = absurd (omega arith)

pub middle_pos : (x b : ℕ) → bit_at x b ≡ 1 → 0 < middle x b
middle_pos x b high = middle_above 0 x b (omega arith) (bit_at-zero b) high

-- what the shifts of 32 bits give
pub middle-shifted : (x b : ℕ) → x < 2 ^ 32 → x / 2 ^ b * 2 ^ b % 2 ^ 32 ≡ middle x b
middle-shifted x b h = let le = middle-le x b in mod-eq_of_lt (let lt : x / 2 ^ b * 2 ^ b < 2 ^ 32 = omega arith in lt)
