-- An address by the bits of each coordinate on their own.
use Rattle.std.proofs.Common.{◌≡◌, ◌≤◌, ◌<◌, ◌+◌, ◌-◌, ◌*◌, ◌/◌, ◌%◌, ◌^◌, ◌==◌, ◌&&◌, ℕ, zero, suc, Bool, true, List, length, slice_index, take, refl, sym, ap, arith, ◌∙◌, bit_or}
use Rattle.std.proofs.Math.Nat.{add-mul, mul_assoc, mod-eq_of_lt}
use Rattle.std.proofs.lemmas.List.{get_or-take, length-take-le, take_all}
use Rattle.std.proofs.lemmas.Nat.{pow-add, shl_whole, or_shifted}
use Rattle.std.proofs.lemmas.Bool.Decides.{Decides-below_and, Decides-eqb}
use Rattle.std.specs.Int.{bit_at}
use Rattle.ub_zaddr.specs.Address.{sum_below, place, address}
use Rattle.ub_zaddr.specs.Moved.{moved, spaced, gathered}
use Rattle.ub_zaddr.proofs.AddressFacts.{sum_same}
use Rattle.ub_zaddr.proofs.MovedFacts.{moved-lt, moved-low, moved-split, moved-all, halved}

sum_none : (n : ℕ) → sum_below (λ i. 0) n ≡ 0
sum_none zero = refl
sum_none (suc n) = let rest = sum_none n in omega arith

sum_plus : (f g : ℕ → ℕ) (n : ℕ) → sum_below (λ i. f i + g i) n ≡ sum_below f n + sum_below g n
sum_plus f g zero = refl
sum_plus f g (suc n) = let rest = sum_plus f g n in omega arith

sum_times : (f : ℕ → ℕ) (m n : ℕ) → sum_below (λ i. f i * m) n ≡ sum_below f n * m
sum_times f m zero = omega arith
sum_times f m (suc n) = let rest = sum_times f m n in let split : (sum_below f n + f n) * m ≡ sum_below f n * m + f n * m = add-mul (sum_below f n) (f n) m in omega arith

sum_swap : (f : ℕ → ℕ → ℕ) (d n : ℕ) → sum_below (λ b. sum_below (λ i. f b i) d) n ≡ sum_below (λ i. sum_below (λ b. f b i) n) d
sum_swap f d zero = sym (sum_none d)
sum_swap f d (suc n) = ap (λ (m : ℕ). m + sum_below (λ i. f n i) d) (sum_swap f d n) ∙ sym (sum_plus (λ i. sum_below (λ b. f b i) n) (λ i. f n i) d)

-- the bits of one coordinate
one_coordinate : (d k n x : ℕ) → sum_below (λ b. bit_at x b * 2 ^ (b * d + k)) n ≡ spaced d n x * 2 ^ k
unfolding moved
one_coordinate d k n x =
    sum_same (λ b. bit_at x b * 2 ^ (b * d + k)) (λ b. bit_at x (b * 1) * 2 ^ (b * d) * 2 ^ k) n (λ b lt.
    let one : b * 1 ≡ b = omega arith in
    rw (one, pow-add 2 (b * d) k) (sym (mul_assoc (bit_at x b) (2 ^ (b * d)) (2 ^ k))))
    ∙ sum_times (λ b. bit_at x (b * 1) * 2 ^ (b * d)) (2 ^ k) n

pub address-spaced : (p : List ℕ) (d : ℕ) → length p ≡ d → address p ≡ sum_below (λ i. spaced d 32 (slice_index p i) * 2 ^ (d - 1 - i)) d
unfolding address
address-spaced p d e =
    rw e (sum_swap (λ b i. bit_at (slice_index p i) b * 2 ^ place d i b) d 32
    ∙ sum_same (λ i. sum_below (λ b. bit_at (slice_index p i) b * 2 ^ place d i b) 32) (λ i. spaced d 32 (slice_index p i) * 2 ^ (d - 1 - i)) d
    (λ i lt. one_coordinate d (d - 1 - i) 32 (slice_index p i)))

pub address_one : (p : List ℕ) → length p ≡ 1 → slice_index p 0 < 2 ^ 32 → slice_index p 0 ≡ address p
address_one p e small =
    let sum = address-spaced p 1 e in
    let all : spaced 1 32 (slice_index p 0) ≡ slice_index p 0 = moved-all 32 (slice_index p 0) ∙ mod-eq_of_lt small in
    omega arith

pub address_two : (p : List ℕ) → length p ≡ 2 → 2 * spaced 2 32 (slice_index p 0) + spaced 2 32 (slice_index p 1) ≡ address p
address_two p e = let sum = address-spaced p 2 e in omega arith

pub address_three : (p : List ℕ) → length p ≡ 3 → 4 * spaced 3 32 (slice_index p 0) + 2 * spaced 3 32 (slice_index p 1) + spaced 3 32 (slice_index p 2) ≡ address p
address_three p e = let sum = address-spaced p 3 e in omega arith

pub address_four : (p : List ℕ) → length p ≡ 4
    → 8 * spaced 4 32 (slice_index p 0) + 4 * spaced 4 32 (slice_index p 1) + 2 * spaced 4 32 (slice_index p 2) + spaced 4 32 (slice_index p 3) ≡ address p
address_four p e = let sum = address-spaced p 4 e in omega arith

-- ---- the first of four places
first_of : (n i : ℕ) (p : List ℕ) → i < n → slice_index (take n p) i ≡ slice_index p i
first_of n i p lt = get_or-take n p i 0 lt

pub places_one : (p : List ℕ) → length p ≡ 4 → slice_index p 0 < 2 ^ 32 → slice_index p 0 ≡ address (take 1 p)
places_one p e small =
    let first = first_of 1 0 p (omega arith) in
    rw first at (address_one (take 1 p) (length-take-le 1 p (omega arith)) (rw first small))

pub places_two : (p : List ℕ) → length p ≡ 4 → 2 * spaced 2 32 (slice_index p 0) + spaced 2 32 (slice_index p 1) ≡ address (take 2 p)
places_two p e =
    rw (first_of 2 0 p (omega arith), first_of 2 1 p (omega arith)) at (address_two (take 2 p) (length-take-le 2 p (omega arith)))

pub places_three : (p : List ℕ) → length p ≡ 4
    → 4 * spaced 3 32 (slice_index p 0) + 2 * spaced 3 32 (slice_index p 1) + spaced 3 32 (slice_index p 2) ≡ address (take 3 p)
places_three p e =
    rw (first_of 3 0 p (omega arith), first_of 3 1 p (omega arith), first_of 3 2 p (omega arith)) at (address_three (take 3 p) (length-take-le 3 p (omega arith)))

pub places_four : (p : List ℕ) → length p ≡ 4
    → 8 * spaced 4 32 (slice_index p 0) + 4 * spaced 4 32 (slice_index p 1) + 2 * spaced 4 32 (slice_index p 2) + spaced 4 32 (slice_index p 3) ≡ address (take 4 p)
places_four p e = rw (take_all 4 p (omega arith)) (address_four p e)

-- ---- parts joined by a shift

joined : (u l k w t : ℕ) → u < 2 ^ w → w + k ≤ t → l < 2 ^ k → bit_or (u * 2 ^ k % 2 ^ t) l ≡ u * 2 ^ k + l
joined u l k w t hu fits hl = rw (shl_whole u w k t hu fits) (or_shifted u k l hl)

pub three_joined : (x y z u l : ℕ) → u < 2 ^ 48 → l < 2 ^ 48
    → u ≡ 4 * spaced 3 16 (x / 2 ^ 16) + 2 * spaced 3 16 (y / 2 ^ 16) + spaced 3 16 (z / 2 ^ 16)
    → l ≡ 4 * spaced 3 16 (x % 2 ^ 16) + 2 * spaced 3 16 (y % 2 ^ 16) + spaced 3 16 (z % 2 ^ 16)
    → bit_or (u * 2 ^ 48 % 2 ^ 128) l ≡ 4 * spaced 3 32 x + 2 * spaced 3 32 y + spaced 3 32 z
three_joined x y z u l hu hl eu el =
    let hx : spaced 3 32 x ≡ spaced 3 16 (x / 2 ^ 16) * 2 ^ 48 + spaced 3 16 (x % 2 ^ 16) = halved 3 16 x in
    let hy : spaced 3 32 y ≡ spaced 3 16 (y / 2 ^ 16) * 2 ^ 48 + spaced 3 16 (y % 2 ^ 16) = halved 3 16 y in
    let hz : spaced 3 32 z ≡ spaced 3 16 (z / 2 ^ 16) * 2 ^ 48 + spaced 3 16 (z % 2 ^ 16) = halved 3 16 z in
    joined u l 48 48 128 hu (omega arith) hl ∙ omega arith

pub four_joined : (x y z w u l : ℕ) → u < 2 ^ 64 → l < 2 ^ 64
    → u ≡ 8 * spaced 4 16 (x / 2 ^ 16) + 4 * spaced 4 16 (y / 2 ^ 16) + 2 * spaced 4 16 (z / 2 ^ 16) + spaced 4 16 (w / 2 ^ 16)
    → l ≡ 8 * spaced 4 16 (x % 2 ^ 16) + 4 * spaced 4 16 (y % 2 ^ 16) + 2 * spaced 4 16 (z % 2 ^ 16) + spaced 4 16 (w % 2 ^ 16)
    → bit_or (u * 2 ^ 64 % 2 ^ 128) l ≡ 8 * spaced 4 32 x + 4 * spaced 4 32 y + 2 * spaced 4 32 z + spaced 4 32 w
four_joined x y z w u l hu hl eu el =
    let hx : spaced 4 32 x ≡ spaced 4 16 (x / 2 ^ 16) * 2 ^ 64 + spaced 4 16 (x % 2 ^ 16) = halved 4 16 x in
    let hy : spaced 4 32 y ≡ spaced 4 16 (y / 2 ^ 16) * 2 ^ 64 + spaced 4 16 (y % 2 ^ 16) = halved 4 16 y in
    let hz : spaced 4 32 z ≡ spaced 4 16 (z / 2 ^ 16) * 2 ^ 64 + spaced 4 16 (z % 2 ^ 16) = halved 4 16 z in
    let hw : spaced 4 32 w ≡ spaced 4 16 (w / 2 ^ 16) * 2 ^ 64 + spaced 4 16 (w % 2 ^ 16) = halved 4 16 w in
    joined u l 64 64 128 hu (omega arith) hl ∙ omega arith

abbrev pub right_below : List ℕ → ℕ → ℕ → Bool
right_below table d zero = true
right_below table d (suc n) = slice_index table n == spaced d 8 n && right_below table d n

-- the entries of a table, looked through by computing
pub entries : (table : List ℕ) (d m : ℕ) → right_below table d m ≡ true → (n : ℕ) → n < m → slice_index table n ≡ spaced d 8 n
entries table d m h = (Decides-below_and (λ n. slice_index table n == spaced d 8 n) (λ n. slice_index table n ≡ spaced d 8 n) (right_below table d) (λ n. Decides-eqb (slice_index table n) (spaced d 8 n)) refl (λ _. refl) m).0 h

-- the bytes of a half word
pub bytes_joined : (d x u l : ℕ) → 1 ≤ d → d ≤ 4 → u ≡ spaced d 8 (x / 2 ^ 8) → l ≡ spaced d 8 (x % 2 ^ 8) → bit_or (u * 2 ^ (8 * d) % 2 ^ 64) l ≡ spaced d 16 x
bytes_joined d x u l some within eu el =
    let hu : u < 2 ^ (8 * d) = rw eu (moved-lt 1 d 8 (x / 2 ^ 8) some) in
    let hl : l < 2 ^ (8 * d) = rw el (moved-lt 1 d 8 (x % 2 ^ 8) some) in
    joined u l (8 * d) (8 * d) 64 hu (omega arith) hl ∙ rw (eu, el) (sym (halved d 8 x))

-- the halves of a coordinate
pub halves_joined : (d z u l : ℕ) → d ≤ 4 → u ≡ gathered d 16 (z / 2 ^ (16 * d) % 2 ^ 64) → l ≡ gathered d 16 (z % 2 ^ 64) → bit_or (u * 2 ^ 16 % 2 ^ 32) l ≡ gathered d 32 z
halves_joined d z u l within eu el =
    let one : 1 ≤ 1 = omega arith in
    let hu : u < 2 ^ 16 = rw eu (moved-lt d 1 16 (z / 2 ^ (16 * d) % 2 ^ 64) one) in
    let hl : l < 2 ^ 16 = rw el (moved-lt d 1 16 (z % 2 ^ 64) one) in
    let high = moved-low d 1 16 64 (z / 2 ^ (16 * d)) (omega arith) in
    let low = moved-low d 1 16 64 z (omega arith) in
    joined u l 16 16 32 hu (omega arith) hl ∙ rw (eu, el, high, low) (sym (moved-split d 1 16 16 z))
