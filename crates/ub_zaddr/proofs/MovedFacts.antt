-- Bits moved from places at one distance to places at another: their size, their parts, and one bit of them.
use Rattle.std.proofs.Common.{◌≡◌, ◌≤◌, ◌<◌, ◌+◌, ◌-◌, ◌*◌, ◌/◌, ◌%◌, ◌^◌, ℕ, zero, suc, ap, sym, refl, arith, ◌∙◌, add-one, below_more}
use Rattle.std.proofs.Math.Nat.{mul-le-mul_right, mul-le-mul_left, add-mul, mul-add, mul_assoc, add_comm}
use Rattle.std.proofs.Math.Pow.{pow_mono}
use Rattle.std.proofs.lemmas.Nat.{pow-add, pow_pos, mod-pow-add}
use Rattle.std.proofs.lemmas.Nat.Bits.{bit_at-lt}
use Rattle.std.specs.Int.{bit_at}
use Rattle.ub_zaddr.specs.Moved.{moved, spaced, gathered}
use Rattle.ub_zaddr.proofs.BitFacts.{bit_of_shift, bit_of_low, with_bit-low, with_bit-top}

pub moved-next : (c e n x : ℕ) → moved c e (suc n) x ≡ bit_at x (n * c) * 2 ^ (n * e) + moved c e n x
unfolding moved
moved-next c e n x = add_comm (moved c e n x) (bit_at x (n * c) * 2 ^ (n * e))

room_step : (m p v t q : ℕ) → 0 < m → (m - 1) * v + 1 ≤ p → t ≤ 1 * p → q ≡ m * p → (m - 1) * (v + t) + 1 ≤ q
room_step zero p v t q some rest top e = absurd (omega arith)
room_step (suc m) p v t q some rest top e =
    let one : suc m - 1 ≡ m = omega arith in
    let low : m * v + 1 ≤ p = rw one at rest in
    let split : m * (v + t) ≡ m * v + m * t = mul-add m v t in
    let high : m * t ≤ m * p = mul-le-mul_left m (omega arith) in
    let whole : suc m * p ≡ m * p + p = omega arith in
    rw one (omega arith)

within_next : (b c n w : ℕ) → b < n → n * c < w + c → b * c < w
within_next b c n w lt h =
    let le : (b + 1) * c ≤ n * c = mul-le-mul_right c (omega arith) in
    let next : (b + 1) * c ≡ b * c + c = omega arith in
    omega arith

-- with 2 ^ e - 1 others, each of them below a next place, they fill no more than n * e places
pub moved-room : (c e n x : ℕ) → (2 ^ e - 1) * moved c e n x + 1 ≤ 2 ^ (n * e)
unfolding moved
moved-room c e zero x = let p : 0 < 2 ^ (0 * e) = pow_pos (0 * e) in let z : (2 ^ e - 1) * 0 ≡ 0 = omega arith in omega arith
moved-room c e (suc n) x =
    let rest : (2 ^ e - 1) * moved c e n x + 1 ≤ 2 ^ (n * e) = moved-room c e n x in
    let some : 0 < 2 ^ e = pow_pos e in
    let small = bit_at-lt x (n * c) in
    let top : bit_at x (n * c) * 2 ^ (n * e) ≤ 1 * 2 ^ (n * e) = mul-le-mul_right (2 ^ (n * e)) (omega (arith, small)) in
    let wide : suc n * e ≡ e + n * e = omega arith in
    let power : 2 ^ (suc n * e) ≡ 2 ^ e * 2 ^ (n * e) = ap (λ (k : ℕ). 2 ^ k) wide ∙ pow-add 2 e (n * e) in
    room_step (2 ^ e) (2 ^ (n * e)) (moved c e n x) (bit_at x (n * c) * 2 ^ (n * e)) (2 ^ (suc n * e)) some rest top power

-- they fit into n * e places
pub moved-lt : (c e n x : ℕ) → 1 ≤ e → moved c e n x < 2 ^ (n * e)
moved-lt c e n x h =
    let room = moved-room c e n x in
    let two : 2 ^ 1 ≤ 2 ^ e = pow_mono {i = 1} {j = e} h in
    let one : 1 * moved c e n x ≤ (2 ^ e - 1) * moved c e n x = mul-le-mul_right (moved c e n x) (omega arith) in
    omega arith

pub moved-same : (c e n x y : ℕ) → ((b : ℕ) → b < n → bit_at x (b * c) ≡ bit_at y (b * c)) → moved c e n x ≡ moved c e n y
unfolding moved
moved-same c e zero x y h = refl
moved-same c e (suc n) x y h =
    let rest = moved-same c e n x y (λ b lt. h b (omega arith)) in
    let top : bit_at x (n * c) ≡ bit_at y (n * c) = h n (omega arith) in
    rw (rest, top) refl

-- only the low bits are read
pub moved-low : (c e n w x : ℕ) → n * c < w + c → moved c e n (x % 2 ^ w) ≡ moved c e n x
moved-low c e n w x h = moved-same c e n (x % 2 ^ w) x (λ b lt. bit_of_low x w (b * c) (within_next b c n w lt h))

-- the higher part and the lower part
pub moved-split : (c e m n x : ℕ) → moved c e (m + n) x ≡ moved c e m (x / 2 ^ (n * c)) * 2 ^ (n * e) + moved c e n x
unfolding moved
moved-split c e zero n x = let a : zero + n ≡ n = omega arith in rw a (omega arith)
moved-split c e (suc m) n x =
    let a : suc m + n ≡ suc (m + n) = omega arith in
    let rest = moved-split c e m n x in
    let y : ℕ = x / 2 ^ (n * c) in
    let from : n * c + m * c ≡ (m + n) * c = omega arith in
    let bit : bit_at y (m * c) ≡ bit_at x ((m + n) * c) = bit_of_shift x (n * c) (m * c) ∙ ap (λ (k : ℕ). bit_at x k) from in
    let to : (m + n) * e ≡ m * e + n * e = omega arith in
    let power : 2 ^ ((m + n) * e) ≡ 2 ^ (m * e) * 2 ^ (n * e) = ap (λ (k : ℕ). 2 ^ k) to ∙ pow-add 2 (m * e) (n * e) in
    let top : bit_at x ((m + n) * c) * 2 ^ ((m + n) * e) ≡ bit_at y (m * c) * 2 ^ (m * e) * 2 ^ (n * e) =
    rw (power, bit) (sym (mul_assoc (bit_at x ((m + n) * c)) (2 ^ (m * e)) (2 ^ (n * e)))) in
    let parts : (moved c e m y + bit_at y (m * c) * 2 ^ (m * e)) * 2 ^ (n * e) ≡ moved c e m y * 2 ^ (n * e) + bit_at y (m * c) * 2 ^ (m * e) * 2 ^ (n * e) =
    add-mul (moved c e m y) (bit_at y (m * c) * 2 ^ (m * e)) (2 ^ (n * e)) in
    rw a (omega arith)

-- all bits where they stand
pub moved-all : (n x : ℕ) → moved 1 1 n x ≡ x % 2 ^ n
unfolding moved
moved-all zero x = omega arith
moved-all (suc n) x =
    let rest = moved-all n x in
    let one : n * 1 ≡ n = omega arith in
    let count : suc n ≡ 1 + n = omega arith in
    let cut : x % 2 ^ suc n ≡ bit_at x n * 2 ^ n + x % 2 ^ n = ap (λ (k : ℕ). x % 2 ^ k) count ∙ mod-pow-add x 1 n in
    rw one (omega arith)

-- each bit that is put together
pub gathered-bit : (d n x b : ℕ) → b < n → bit_at (gathered d n x) b ≡ bit_at x (b * d)
unfolding moved
gathered-bit d zero x b h = absurd (omega arith)
gathered-bit d (suc n) x b h =
    let one : n * 1 ≡ n = omega arith in
    let two = bit_at-lt x (n * d) in
    let e : 1 ≤ 1 = omega arith in
    let small : gathered d n x < 2 ^ n = rw one at (moved-lt d 1 n x e) in
    rw one ((rw add-one at (below_more (λ k. bit_at (gathered d n x + bit_at x (n * d) * 2 ^ n) k ≡ bit_at x (k * d)) n
    (λ k lt. with_bit-low (gathered d n x) (bit_at x (n * d)) n k lt ∙ gathered-bit d n x k lt)
    (with_bit-top (gathered d n x) (bit_at x (n * d)) n small two) b)) h)

-- of a number shifted
pub gathered-at : (d k z b : ℕ) → b < 32 → bit_at (gathered d 32 (z / 2 ^ k)) b ≡ bit_at z (b * d + k)
gathered-at d k z b h = let turn : k + b * d ≡ b * d + k = omega arith in gathered-bit d 32 (z / 2 ^ k) b h ∙ bit_of_shift z k (b * d) ∙ ap (λ (j : ℕ). bit_at z j) turn

-- two halves
pub halved : (d h x : ℕ) → moved 1 d (h + h) x ≡ moved 1 d h (x / 2 ^ h) * 2 ^ (h * d) + moved 1 d h (x % 2 ^ h)
halved d h x =
    let one : h * 1 ≡ h = omega arith in
    let low : moved 1 d h (x % 2 ^ h) ≡ moved 1 d h x = moved-low 1 d h h x (omega arith) in
    rw low (moved-split 1 d h h x ∙ ap (λ (k : ℕ). moved 1 d h (x / 2 ^ k) * 2 ^ (h * d) + moved 1 d h x) one)

pub room_by_two : (x : ℕ) → 3 * spaced 2 32 x + 1 ≤ 2 ^ 64
room_by_two x = moved-room 1 2 32 x

pub room_by_three : (x : ℕ) → 7 * spaced 3 16 x + 1 ≤ 2 ^ 48
room_by_three x = moved-room 1 3 16 x

pub room_by_four : (x : ℕ) → 15 * spaced 4 16 x + 1 ≤ 2 ^ 64
room_by_four x = moved-room 1 4 16 x
