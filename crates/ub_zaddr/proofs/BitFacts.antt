-- A number that is built from its lowest bit up, the bits of its parts, and where two numbers differ.
use Rattle.std.proofs.Common.{◌≡◌, ◌≤◌, ◌<◌, ◌+◌, ◌-◌, ◌*◌, ◌/◌, ◌%◌, ◌^◌, ℕ, ap, sym, arith, ◌∙◌, bit_xor}
use Rattle.std.proofs.Math.Nat.{lt-div-mul-add, mul-le-mul_right, add-mul, add_comm, mod-eq_of_lt}
use Rattle.std.proofs.lemmas.Nat.{pow-add, pow_pos, shr-shr, shr_split}
use Rattle.std.proofs.lemmas.Nat.Bits.{bit_at-lt, bit_at-zero, bit_at_above, bit_at_cat_low, bit_at_cat_high, bit_at_lowest, bit_at_xor, same_from_bits}
use Rattle.std.specs.Int.{bit_at}

pub with_bit-lt : (x v n : ℕ) → x < 2 ^ n → v < 2 → x + v * 2 ^ n < 2 ^ (n + 1)
with_bit-lt x v n hx hv =
    let room : (v + 1) * 2 ^ n ≤ 2 * 2 ^ n = mul-le-mul_right (2 ^ n) (omega arith) in
    let split : (v + 1) * 2 ^ n ≡ v * 2 ^ n + 1 * 2 ^ n = add-mul v 1 (2 ^ n) in
    let e : n + 1 ≡ 1 + n = omega arith in
    let whole : 2 ^ (n + 1) ≡ 2 * 2 ^ n = ap (λ (k : ℕ). 2 ^ k) e ∙ pow-add 2 1 n in
    omega arith

pub with_bit-low : (x v n k : ℕ) → k < n → bit_at (x + v * 2 ^ n) k ≡ bit_at x k
with_bit-low x v n k h = ap (λ (m : ℕ). bit_at m k) (add_comm x (v * 2 ^ n)) ∙ bit_at_cat_low v n x k h

pub with_bit-top : (x v n : ℕ) → x < 2 ^ n → v < 2 → bit_at (x + v * 2 ^ n) n ≡ v
with_bit-top x v n hx hv =
    let none : n - n ≡ 0 = omega arith in
    ap (λ (m : ℕ). bit_at m n) (add_comm x (v * 2 ^ n)) ∙ bit_at_cat_high v n x n hx (omega arith) ∙ ap (λ (k : ℕ). bit_at v k) none ∙ bit_at_lowest v ∙ mod-eq_of_lt hv

-- the bits of a number that is shifted, and of its low bits
pub bit_of_shift : (n k j : ℕ) → bit_at (n / 2 ^ k) j ≡ bit_at n (k + j)
bit_of_shift n k j = ap (λ (m : ℕ). m % 2) (shr-shr n k j)

pub bit_of_low : (n w j : ℕ) → j < w → bit_at (n % 2 ^ w) j ≡ bit_at n j
bit_of_low n w j h = sym (bit_at_cat_low (n / 2 ^ w) w (n % 2 ^ w) j h) ∙ ap (λ (m : ℕ). bit_at m j) (shr_split n w)

-- a bit at or above a place from which on two numbers agree is one in both
pub same_bit : (a b f k : ℕ) → f ≤ k → a / 2 ^ f ≡ b / 2 ^ f → bit_at a k ≡ bit_at b k
same_bit a b f k le e =
    let split : f + (k - f) ≡ k = omega arith in
    ap (λ (n : ℕ). bit_at a n) (sym split) ∙ sym (bit_of_shift a f (k - f)) ∙ ap (λ (n : ℕ). bit_at n (k - f)) e ∙ bit_of_shift b f (k - f) ∙ ap (λ (n : ℕ). bit_at b n) split

-- a number with no bit from f up is below 2 ^ f
small_from_bits : (n f : ℕ) → ((t : ℕ) → bit_at n (f + t) ≡ 0) → n < 2 ^ f
small_from_bits n f h =
    let none : n / 2 ^ f ≡ 0 = same_from_bits _ _ (λ t. bit_of_shift n f t ∙ h t ∙ sym (bit_at-zero t)) in
    let top = lt-div-mul-add {a = n} {b = 2 ^ f} (pow_pos f) in
    let zero_times : n / 2 ^ f * 2 ^ f ≡ 0 * 2 ^ f = ap (λ (m : ℕ). m * 2 ^ f) none in
    omega arith

-- two numbers agree from bit f up just where they differ in lower bits alone
pub xor_same : (a b f : ℕ) → a / 2 ^ f ≡ b / 2 ^ f → bit_xor a b < 2 ^ f
xor_same a b f e =
    small_from_bits _ f (λ t. let same = same_bit a b f (f + t) (omega arith) e in let x = bit_at_xor a b (f + t) in omega arith)

pub same_xor : (a b f : ℕ) → bit_xor a b < 2 ^ f → a / 2 ^ f ≡ b / 2 ^ f
same_xor a b f lt = same_from_bits _ _ (λ t. bit_of_shift a f t ∙ same t ∙ sym (bit_of_shift b f t))
  where
    same : (t : ℕ) → bit_at a (f + t) ≡ bit_at b (f + t)
    same t =
        let none = bit_at_above (bit_xor a b) f (f + t) lt (omega arith) in
        let x = bit_at_xor a b (f + t) in
        let sa = bit_at-lt a (f + t) in let sb = bit_at-lt b (f + t) in
        omega arith
