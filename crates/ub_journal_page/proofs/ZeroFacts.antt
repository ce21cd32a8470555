-- Bytes that are zero, where all of them joined are.
use Rattle.std.proofs.Common.{◌≡◌, ◌↔◌, ◌<◌, ◌≤◌, ◌+◌, max, ℕ, zero, suc, List, [], ◌∷◌, length, replicate, bit_or, slice_index_or, refl, sym, ap, arith, ◌∙◌, inl, inr}
use Rattle.std.proofs.Math.Nat.{le-max_left, le-max_right, eq-or-lt_of_le}
use Rattle.std.proofs.lemmas.Nat.Bits.{bit_at_or, bit_at-zero, same_from_bits}
use Rattle.std.specs.Int.{bit_at}

-- the first so many bytes are zero where what they were joined to is
abbrev pub AreZero : List ℕ → ℕ → ℕ → Type 0
AreZero bytes joined i = (joined ≡ 0) ↔ ((k : ℕ) → k < i → slice_index_or bytes k 0 ≡ 0)

both_zero : (a b : ℕ) → bit_or a b ≡ 0 → (a ≡ 0) × (b ≡ 0)
both_zero a b e = (
  same_from_bits a 0 (λ i. none a i (bit_at b i) (le-max_left (bit_at a i) (bit_at b i)) (top i)),
  same_from_bits b 0 (λ i. none b i (bit_at a i) (le-max_right (bit_at a i) (bit_at b i)) (top i)),
)
  where
    top : (i : ℕ) → max (bit_at a i) (bit_at b i) ≡ 0
    top i = sym (bit_at_or a b i) ∙ ap (λ (n : ℕ). bit_at n i) e ∙ bit_at-zero i

    none : (n i m : ℕ) {t : ℕ} → bit_at n i ≤ t → t ≡ 0 → bit_at n i ≡ bit_at 0 i
    none n i m le is = let z = bit_at-zero i in omega (arith, le, is, z)

pub more_zero : (bytes : List ℕ) (joined i : ℕ) → AreZero bytes joined i → AreZero bytes (bit_or joined (slice_index_or bytes i 0)) (i + 1)
more_zero bytes joined i are = (
  (λ e k lt.
      let both = both_zero joined (slice_index_or bytes i 0) e in
      let le : k ≤ i = omega (arith, lt) in
      elim (eq-or-lt_of_le le) [
        | inl same ↦ ap (λ (n : ℕ). slice_index_or bytes n 0) same ∙ both.1
        | inr less ↦ are.0 both.0 k less
      ]),
  (λ all.
      let left : joined ≡ 0 = are.1 (λ k lt. all k (omega (arith, lt))) in
      let right : slice_index_or bytes i 0 ≡ 0 = all i (omega arith) in
      rw (left, right) refl),
)

zeros_from : (bytes : List ℕ) → ((k : ℕ) → k < length bytes → slice_index_or bytes k 0 ≡ 0) → bytes ≡ replicate (length bytes) 0
zeros_from [] all = refl
zeros_from (b ∷ bytes) all =
    let first : b ≡ 0 = all 0 (omega arith) in
    let rest = zeros_from bytes (λ k lt. all (suc k) (omega (arith, lt))) in
    ap (λ (n : ℕ). n ∷ bytes) first ∙ ap (λ (xs : List ℕ). 0 ∷ xs) rest

zeros_at : (n k : ℕ) → slice_index_or (replicate {A = ℕ} n 0) k 0 ≡ 0
zeros_at zero k = refl
zeros_at (suc n) zero = refl
zeros_at (suc n) (suc k) = zeros_at n k

pub all_zero : (bytes : List ℕ) (joined i : ℕ) → AreZero bytes joined i → length bytes ≤ i → i ≤ length bytes
    → (joined ≡ 0) ↔ (bytes ≡ replicate (length bytes) 0)
all_zero bytes joined i are from to = (
  (λ e. zeros_from bytes (λ k lt. are.0 e k (omega (arith, lt, from)))),
  (λ is. are.1 (λ k lt. ap (λ (xs : List ℕ). slice_index_or xs k 0) is ∙ zeros_at (length bytes) k)),
)
