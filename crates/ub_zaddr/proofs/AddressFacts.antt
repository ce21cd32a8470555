-- Facts about addresses: the digits, the bits, the order and the inverse.
use Rattle.std.proofs.Common.{◌≡◌, ◌≤◌, ◌<◌, ◌+◌, ◌-◌, ◌*◌, ◌/◌, ◌%◌, ◌^◌, ℕ, zero, suc, List, [], ◌∷◌, length, refl, sym, ap, arith, ◌∙◌, add-one, inl, inr, slice_index}
use Rattle.std.proofs.Math.Nat.{mul-le-mul_right, add-mul, mul_assoc, add_comm, add-mul-mod_self_right, mod-eq_of_lt}
use Rattle.std.proofs.lemmas.Bool.Decides.{leb_tells}
use Rattle.std.proofs.lemmas.Grind.{same_number_lists}
use Rattle.std.proofs.lemmas.List.Elements.{All-get_or}
use Rattle.std.proofs.lemmas.Nat.{pow-add, mod-pow-add, same_from_place, mod_below, pow_pos, div-mul-add, div_below, div-add-mod'}
use Rattle.std.proofs.lemmas.Nat.Bits.{bit_at-lt, bit_at_cat_low, bit_at_cat_high, bit_at_lowest, same_from_bits_below}
use Rattle.std.specs.Int.{bit_at}
use Rattle.ub_zaddr.specs.Address.{sum_below, IsPoint, place, address, last_address, IsAtMost}
use Rattle.ub_zaddr.proofs.BitFacts.{bit_of_shift, bit_of_low}

-- the digits of an address: it has one of d bits at each place, bit b of each coordinate, that of the first dimension highest
abbrev pub digit_at : ℕ → List ℕ → ℕ
digit_at b [] = 0
digit_at b (x ∷ xs) = bit_at x b * 2 ^ length xs + digit_at b xs

-- the sum of the n lowest digits, each at its place
unfoldable pub address_below : List ℕ → ℕ → ℕ
address_below p n = sum_below (λ b. digit_at b p * 2 ^ (b * length p)) n

-- ---- sums

-- the first of a sum stands apart
pub sum_first : (f : ℕ → ℕ) (n : ℕ) → sum_below f (suc n) ≡ f 0 + sum_below (λ i. f (suc i)) n
sum_first f zero = omega arith
sum_first f (suc n) =
    let more : sum_below f (suc n) ≡ f 0 + sum_below (λ i. f (suc i)) n = sum_first f n in
    omega arith

pub sum_same : (f g : ℕ → ℕ) (n : ℕ) → ((i : ℕ) → i < n → f i ≡ g i) → sum_below f n ≡ sum_below g n
sum_same f g zero h = refl
sum_same f g (suc n) h =
    let more : sum_below f n ≡ sum_below g n = sum_same f g n (λ i lt. h i (omega arith)) in
    let top : f n ≡ g n = h n (omega arith) in
    omega arith

-- a digit is the sum over the dimensions
pub digit_sum : (p : List ℕ) (b base : ℕ)
    → sum_below (λ i. bit_at (slice_index p i) b * 2 ^ (base + (length p - 1 - i))) (length p) ≡ digit_at b p * 2 ^ base
digit_sum [] b base = omega arith
digit_sum (x ∷ xs) b base =
    let n : ℕ = length xs in
    let f : ℕ → ℕ = λ i. bit_at (slice_index (x ∷ xs) i) b * 2 ^ (base + (suc n - 1 - i)) in
    let g : ℕ → ℕ = λ i. bit_at (slice_index xs i) b * 2 ^ (base + (n - 1 - i)) in
    let rest : sum_below (λ i. f (suc i)) n ≡ sum_below g n =
    sum_same (λ i. f (suc i)) g n (λ i lt. ap (λ (k : ℕ). bit_at (slice_index xs i) b * 2 ^ (base + k)) (omega arith)) in
    let more : sum_below g n ≡ digit_at b xs * 2 ^ base = digit_sum xs b base in
    let width : base + (suc n - 1 - 0) ≡ n + base = omega arith in
    let head : f 0 ≡ bit_at x b * 2 ^ n * 2 ^ base =
    ap (λ (k : ℕ). bit_at x b * 2 ^ k) width ∙ ap (λ (m : ℕ). bit_at x b * m) (pow-add 2 n base) ∙ sym (mul_assoc (bit_at x b) (2 ^ n) (2 ^ base)) in
    let parts : (bit_at x b * 2 ^ n + digit_at b xs) * 2 ^ base ≡ bit_at x b * 2 ^ n * 2 ^ base + digit_at b xs * 2 ^ base =
    add-mul (bit_at x b * 2 ^ n) (digit_at b xs) (2 ^ base) in
    let whole : sum_below f (suc n) ≡ f 0 + sum_below (λ i. f (suc i)) n = sum_first f n in
    whole ∙ ap (λ (m : ℕ). m + sum_below (λ i. f (suc i)) n) head ∙ ap (λ (m : ℕ). bit_at x b * 2 ^ n * 2 ^ base + m) (rest ∙ more) ∙ sym parts

-- an address is the sum of its digits
pub address-digits : (p : List ℕ) → address p ≡ address_below p 32
unfolding address address_below
address-digits p =
    sum_same (λ b. sum_below (λ i. bit_at (slice_index p i) b * 2 ^ place (length p) i b) (length p)) (λ b. digit_at b p * 2 ^ (b * length p)) 32 (λ b lt. digit_sum p b (b * length p))

-- ---- digits

-- a digit of d bits above a number of b * d bits
pub above : (z v b d : ℕ) → z < 2 ^ (b * d) → v < 2 ^ d → z + v * 2 ^ (b * d) < 2 ^ ((b + 1) * d)
above z v b d hz hv =
    let room : (v + 1) * 2 ^ (b * d) ≤ 2 ^ d * 2 ^ (b * d) = mul-le-mul_right (2 ^ (b * d)) (omega arith) in
    let split : (v + 1) * 2 ^ (b * d) ≡ v * 2 ^ (b * d) + 1 * 2 ^ (b * d) = add-mul v 1 (2 ^ (b * d)) in
    let width : (b + 1) * d ≡ d + b * d = omega arith in
    let whole : 2 ^ ((b + 1) * d) ≡ 2 ^ d * 2 ^ (b * d) = ap (λ (n : ℕ). 2 ^ n) width ∙ pow-add 2 d (b * d) in
    omega arith

-- the d bits at a place of a number do not read what stands above them
pub digit_below : (a v k d m : ℕ) → k + d ≤ m → (a + v * 2 ^ m) / 2 ^ k % 2 ^ d ≡ a / 2 ^ k % 2 ^ d
digit_below a v k d m h =
    let split : m ≡ (m - (d + k)) + (d + k) = omega arith in
    let power : 2 ^ m ≡ 2 ^ (m - (d + k)) * 2 ^ (d + k) = ap (λ (n : ℕ). 2 ^ n) split ∙ pow-add 2 (m - (d + k)) (d + k) in
    let same_low : (a + v * 2 ^ m) % 2 ^ (d + k) ≡ a % 2 ^ (d + k) =
    ap (λ (x : ℕ). (a + x) % 2 ^ (d + k)) (ap (λ (x : ℕ). v * x) power ∙ sym (mul_assoc v (2 ^ (m - (d + k))) (2 ^ (d + k)))) ∙ add-mul-mod_self_right a (v * 2 ^ (m - (d + k))) (2 ^ (d + k)) in
    let parts = sym (mod-pow-add (a + v * 2 ^ m) d k) ∙ same_low ∙ mod-pow-add a d k in
    (same_from_place _ _ _ _ (2 ^ k) (mod_below (a + v * 2 ^ m) (2 ^ k) (pow_pos k)) (mod_below a (2 ^ k) (pow_pos k)) parts).0

pub digit-lt : (b : ℕ) (p : List ℕ) → digit_at b p < 2 ^ length p
digit-lt b [] = omega arith
digit-lt b (x ∷ xs) =
    let rest = digit-lt b xs in
    let top : bit_at x b * 2 ^ length xs ≤ 1 * 2 ^ length xs = mul-le-mul_right (2 ^ length xs) (omega (arith, bit_at-lt x b)) in
    let power : 2 ^ suc (length xs) ≡ 2 * 2 ^ length xs = ap (λ (n : ℕ). 2 ^ n) (let e : suc (length xs) ≡ 1 + length xs = omega arith in e) ∙ pow-add 2 1 (length xs) in
    omega arith

pub address_below-lt : (p : List ℕ) (n : ℕ) → address_below p n < 2 ^ (n * length p)
unfolding address_below
address_below-lt p zero = pow_pos (0 * length p)
address_below-lt p (suc n) = rw add-one at (above (address_below p n) (digit_at n p) n (length p) (address_below-lt p n) (digit-lt n p))

-- the bits at a place of the lowest digits are those of the coordinates
pub address_below-digit : (p : List ℕ) (n b : ℕ) → b < n → address_below p n / 2 ^ (b * length p) % 2 ^ length p ≡ digit_at b p
unfolding address_below
address_below-digit p zero b h = absurd (omega arith)
address_below-digit p (suc n) b h = elim (leb_tells n b) [
  | inl t ↦ let le = t.1 in let same : b ≡ n = omega arith in
      rw same (ap (λ (x : ℕ). x / 2 ^ (n * length p) % 2 ^ length p) (add_comm (address_below p n) (digit_at n p * 2 ^ (n * length p)))
      ∙ ap (λ (x : ℕ). x % 2 ^ length p) (div-mul-add (digit_at n p) (2 ^ (n * length p)) (address_below p n) (address_below-lt p n)) ∙ mod-eq_of_lt (digit-lt n p))
  | inr f ↦ let lt = f.1 in
      let room : (b + 1) * length p ≤ n * length p = mul-le-mul_right (length p) (omega arith) in
      digit_below (address_below p n) (digit_at n p) (b * length p) (length p) (n * length p) (omega arith) ∙ address_below-digit p n b lt
]

-- ---- addresses

-- an address has 32 bits for each dimension
pub address-lt : (p : List ℕ) → address p < 2 ^ (32 * length p)
address-lt p = rw (address-digits p) (address_below-lt p 32)

pub address-le : (d : ℕ) (p : List ℕ) → length p ≡ d → address p ≤ last_address d
address-le d p e = let lt = address-lt p in let same : 2 ^ (32 * length p) ≡ 2 ^ (32 * d) = ap (λ (n : ℕ). 2 ^ (32 * n)) e in omega arith

-- the d bits of an address at bit b are bit b of the coordinates
pub address-digit : (p : List ℕ) (b : ℕ) → b < 32 → address p / 2 ^ (b * length p) % 2 ^ length p ≡ digit_at b p
address-digit p b h = rw (address-digits p) (address_below-digit p 32 b h)

-- a bit of a digit is the coordinate's bit
pub digit-bit : (p : List ℕ) (b i : ℕ) → i < length p → bit_at (digit_at b p) (length p - 1 - i) ≡ bit_at (slice_index p i) b
digit-bit [] b i h = absurd (omega arith)
digit-bit (x ∷ xs) b zero h =
    let top : suc (length xs) - 1 - 0 ≡ length xs = omega arith in
    let none : length xs - length xs ≡ 0 = omega arith in
    ap (λ (j : ℕ). bit_at (digit_at b (x ∷ xs)) j) top
    ∙ bit_at_cat_high (bit_at x b) (length xs) (digit_at b xs) (length xs) (digit-lt b xs) (omega arith)
    ∙ ap (λ (j : ℕ). bit_at (bit_at x b) j) none
    ∙ bit_at_lowest (bit_at x b)
    ∙ mod-eq_of_lt (bit_at-lt x b)
digit-bit (x ∷ xs) b (suc i) h =
    let down : suc (length xs) - 1 - suc i ≡ length xs - 1 - i = omega arith in
    ap (λ (j : ℕ). bit_at (digit_at b (x ∷ xs)) j) down
    ∙ bit_at_cat_low (bit_at x b) (length xs) (digit_at b xs) (length xs - 1 - i) (omega arith)
    ∙ digit-bit xs b i (omega arith)

-- bit b of dimension i stands at its place in the address
pub address-bit : (p : List ℕ) (i b : ℕ) → i < length p → b < 32 → bit_at (address p) (place (length p) i b) ≡ bit_at (slice_index p i) b
address-bit p i b hi hb =
    let d : ℕ = length p in
    sym (bit_of_shift (address p) (b * d) (d - 1 - i))
    ∙ sym (bit_of_low (address p / 2 ^ (b * d)) d (d - 1 - i) (omega arith))
    ∙ ap (λ (m : ℕ). bit_at m (d - 1 - i)) (address-digit p b hb)
    ∙ digit-bit p b i hi

-- each bit of an address is the place of some bit of some dimension
pub is_place : (d k : ℕ) → k < 32 * d → (i b : ℕ) × (i < d) × (b < 32) × (place d i b ≡ k)
is_place d k h =
    let some : 0 < d = omega arith in
    let low : k % d < d = mod_below k d some in
    let bit : k / d < 32 = div_below k d 32 some h in
    let back : d - 1 - (d - 1 - k % d) ≡ k % d = omega arith in
    (d - 1 - k % d, k / d, omega arith, bit, ap (λ (j : ℕ). k / d * d + j) back ∙ div-add-mod' k d)

-- a number that has the coordinates' bits at their places is the address
pub address-of_bits : (p : List ℕ) (z : ℕ) → z < 2 ^ (32 * length p)
    → ((i b : ℕ) → i < length p → b < 32 → bit_at (slice_index p i) b ≡ bit_at z (place (length p) i b)) → address p ≡ z
address-of_bits p z hz h =
    same_from_bits_below (32 * length p) (address p) z (address-lt p) hz (λ k lt.
    let at = is_place (length p) k lt in
    sym (ap (λ (j : ℕ). bit_at (address p) j) at.4) ∙ address-bit p at.0 at.1 at.2 at.3 ∙ h at.0 at.1 at.2 at.3 ∙ ap (λ (j : ℕ). bit_at z j) at.4)

-- two points of one shape with one address are one
pub address-one_to_one : (d : ℕ) (p q : List ℕ) → IsPoint d p → IsPoint d q → address p ≡ address q → p ≡ q
address-one_to_one d p q hp hq e =
    let same : length p ≡ length q = hp.0 ∙ sym hq.0 in
    same_number_lists p q same (λ i lt.
    same_from_bits_below 32 (slice_index p i) (slice_index q i)
    (All-get_or (λ (x : ℕ). x < 2 ^ 32) p i 0 lt hp.1) (All-get_or (λ (x : ℕ). x < 2 ^ 32) q i 0 (omega arith) hq.1) (λ b hb.
    sym (address-bit p i b lt hb) ∙ ap (λ (z : ℕ). bit_at z (place (length p) i b)) e ∙ ap (λ (n : ℕ). bit_at (address q) (place n i b)) same ∙ address-bit q i b (omega arith) hb))

-- ---- the order

by_top : (a b m r s : ℕ) → a * m + r ≤ b * m + s → s < m → a ≤ b
by_top a b m r s h small = elim (leb_tells a b) [
  | inl t ↦ t.1
  | inr f ↦ let lt = f.1 in
      let room : (b + 1) * m ≤ a * m = mul-le-mul_right m (omega arith) in
      let split : (b + 1) * m ≡ b * m + 1 * m = add-mul b 1 m in
      absurd (omega arith)
]

-- the lowest n + 1 bits are bit n and the lowest n bits
low_bits : (x n : ℕ) → x % 2 ^ suc n ≡ bit_at x n * 2 ^ n + x % 2 ^ n
low_bits x n = let e : suc n ≡ 1 + n = omega arith in ap (λ (k : ℕ). x % 2 ^ k) e ∙ mod-pow-add x 1 n

bit_le : (x y n : ℕ) → x % 2 ^ suc n ≤ y % 2 ^ suc n → bit_at x n ≤ bit_at y n
bit_le x y n h =
    let a = low_bits x n in let b = low_bits y n in
    by_top (bit_at x n) (bit_at y n) (2 ^ n) (x % 2 ^ n) (y % 2 ^ n) (omega arith) (mod_below y (2 ^ n) (pow_pos n))

low_le : (x y n : ℕ) → x % 2 ^ suc n ≤ y % 2 ^ suc n → bit_at x n ≡ bit_at y n → x % 2 ^ n ≤ y % 2 ^ n
low_le x y n h e =
    let a = low_bits x n in let b = low_bits y n in
    let top : bit_at x n * 2 ^ n ≡ bit_at y n * 2 ^ n = ap (λ (m : ℕ). m * 2 ^ n) e in
    omega arith

pub digit-le : (b : ℕ) (p q : List ℕ) → length p ≡ length q → ((i : ℕ) → i < length p → bit_at (slice_index p i) b ≤ bit_at (slice_index q i) b)
    → digit_at b p ≤ digit_at b q
digit-le b [] [] e h = omega arith
digit-le b [] (y ∷ ys) e h = omega arith
digit-le b (x ∷ xs) [] e h = absurd (omega arith)
digit-le b (x ∷ xs) (y ∷ ys) e h =
    let same : length xs ≡ length ys = omega arith in
    let rest : digit_at b xs ≤ digit_at b ys = digit-le b xs ys same (λ i lt. h (suc i) (omega arith)) in
    let top : bit_at x b ≤ bit_at y b = h 0 (omega arith) in
    let head : bit_at x b * 2 ^ length xs ≤ bit_at y b * 2 ^ length xs = mul-le-mul_right (2 ^ length xs) top in
    let power : bit_at y b * 2 ^ length xs ≡ bit_at y b * 2 ^ length ys = ap (λ (n : ℕ). bit_at y b * 2 ^ n) same in
    omega arith

-- where the lowest n bits of each coordinate are at most those of another point, so is the address of those bits
pub address_below-le : (p q : List ℕ) → length p ≡ length q → (n : ℕ) → ((i : ℕ) → i < length p → slice_index p i % 2 ^ n ≤ slice_index q i % 2 ^ n)
    → address_below p n ≤ address_below q n
unfolding address_below
address_below-le p q e zero h = omega arith
address_below-le p q e (suc n) h =
    let bits : (i : ℕ) → i < length p → bit_at (slice_index p i) n ≤ bit_at (slice_index q i) n = λ i lt. bit_le (slice_index p i) (slice_index q i) n (h i lt) in
    let digits : digit_at n p ≤ digit_at n q = digit-le n p q e bits in
    let width : 2 ^ (n * length p) ≡ 2 ^ (n * length q) = ap (λ (k : ℕ). 2 ^ (n * k)) e in
    let at_q : digit_at n q * 2 ^ (n * length p) ≡ digit_at n q * 2 ^ (n * length q) = ap (λ (m : ℕ). digit_at n q * m) width in
    let small : address_below p n < 2 ^ (n * length p) = address_below-lt p n in
    elim (leb_tells (digit_at n q) (digit_at n p)) [
      | inl t ↦ let le = t.1 in
          let same : digit_at n p ≡ digit_at n q = omega arith in
          let tops : digit_at n p * 2 ^ (n * length p) ≡ digit_at n q * 2 ^ (n * length p) = ap (λ (m : ℕ). m * 2 ^ (n * length p)) same in
          let rest : address_below p n ≤ address_below q n = address_below-le p q e n (λ i lt.
          low_le (slice_index p i) (slice_index q i) n (h i lt)
          (sym (digit-bit p n i lt) ∙ ap (λ (m : ℕ). bit_at m (length p - 1 - i)) same ∙ ap (λ (k : ℕ). bit_at (digit_at n q) (k - 1 - i)) e ∙ digit-bit q n i (omega arith))) in
          omega arith
      | inr f ↦ let lt = f.1 in
          let room : (digit_at n p + 1) * 2 ^ (n * length p) ≤ digit_at n q * 2 ^ (n * length p) = mul-le-mul_right (2 ^ (n * length p)) (omega arith) in
          let split : (digit_at n p + 1) * 2 ^ (n * length p) ≡ digit_at n p * 2 ^ (n * length p) + 1 * 2 ^ (n * length p) = add-mul (digit_at n p) 1 (2 ^ (n * length p)) in
          omega arith
    ]

-- a point that is at most another in each coordinate has no greater address
pub address-order : (d : ℕ) (p q : List ℕ) → IsPoint d p → IsPoint d q → IsAtMost p q → address p ≤ address q
address-order d p q hp hq h =
    let same : length p ≡ length q = h.0 in
    let le : address_below p 32 ≤ address_below q 32 = address_below-le p q same 32 (λ i lt.
    let a : slice_index p i % 2 ^ 32 ≡ slice_index p i = mod-eq_of_lt (All-get_or (λ (x : ℕ). x < 2 ^ 32) p i 0 lt hp.1) in
    let b : slice_index q i % 2 ^ 32 ≡ slice_index q i = mod-eq_of_lt (All-get_or (λ (x : ℕ). x < 2 ^ 32) q i 0 (omega arith) hq.1) in
    let c : slice_index p i ≤ slice_index q i = h.1 i lt in
    rw (a, b) c) in
    rw (address-digits p, address-digits q) le
