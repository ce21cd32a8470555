-- Masks of dimensions.
use Rattle.std.proofs.Common.{◌≡◌, ◌<◌, ◌≤◌, ◌^◌, ◌/◌, ◌==◌, ℕ, false, IsTrue, refl, arith, ◌*◌, ◌+◌}
use Rattle.std.proofs.Math.Nat.{div-eq_of_lt, lt-div-mul-add}
use Rattle.std.proofs.Math.Pow.{pow_mono}
use Rattle.std.proofs.lemmas.Bool.{eqb-true, eq-eqb}
use Rattle.std.proofs.lemmas.Nat.{pow_pos}
use Rattle.std.proofs.lemmas.Nat.Bits.{bit_at_above}
use Rattle.ub_table.specs.Schema.{IsMask}
use Rattle.ub_table.specs.Value.{is_signed}

-- a mask that is 0 behind the bits of the dimensions has bits for these alone
pub mask_from : (dims m : ℕ) → IsTrue (m / 2 ^ dims == 0) → IsMask dims m
mask_from dims m none =
    let is = eqb-true (m / 2 ^ dims) 0 none in
    let h : m < m / 2 ^ dims * 2 ^ dims + 2 ^ dims = lt-div-mul-add (pow_pos dims) in
    below (2 ^ dims) m (rw is at h)
  where
    below : (k n : ℕ) → n < 0 * k + k → n < k
    below k n lt = omega (arith, lt)

pub mask_to : (dims m : ℕ) → IsMask dims m → IsTrue (m / 2 ^ dims == 0)
mask_to dims m mask = eq-eqb (m / 2 ^ dims) 0 (div-eq_of_lt mask)

-- a mask of four dimensions at most is below 16
pub few : (dims m : ℕ) → dims ≤ 4 → IsMask dims m → m < 16
few dims m le mask =
    let most : 2 ^ dims ≤ 2 ^ 4 = pow_mono le in
    omega (arith, mask, most)

-- no dimension from 32 on is signed
pub none_signed : (m dim : ℕ) → m < 2 ^ 32 → 32 ≤ dim → is_signed m dim ≡ false
none_signed m dim small from = rw (bit_at_above m 32 dim small from) refl
