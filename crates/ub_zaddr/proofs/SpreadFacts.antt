-- Places that get the bits of a number.
use Rattle.std.proofs.Common.{◌≡◌, ◌≤◌, ◌<◌, ◌+◌, ◌*◌, ◌/◌, ◌^◌, ℕ, zero, suc, List, [], ◌∷◌, length, take, slice_index, All, refl, arith, ap, sym, ◌∙◌}
use Rattle.std.proofs.lemmas.List.{length-take-le, get_or-take}
use Rattle.std.proofs.lemmas.List.Elements.{All-take}
use Rattle.std.proofs.lemmas.Nat.{pow_pos}
use Rattle.std.specs.Int.{bit_at}
use Rattle.ub_zaddr.specs.Address.{place, address, last_address, IsPoint}
use Rattle.ub_zaddr.specs.Moved.{gathered}
use Rattle.ub_zaddr.proofs.AddressFacts.{address-of_bits}
use Rattle.ub_zaddr.proofs.MovedFacts.{gathered-at}

-- the places hold the bits of their dimensions
abbrev pub HoldBits : ℕ → ℕ → List ℕ → Type 0
HoldBits d z places = (i b : ℕ) → i < d → b < 32 → bit_at (slice_index places i) b ≡ bit_at z (place d i b)

-- one coordinate and its bit in the address
one_bit : (d n z x i k b : ℕ) → d ≡ n → x ≡ gathered n 32 (z / 2 ^ k) → place n i b ≡ b * n + k → b < 32 → bit_at x b ≡ bit_at z (place d i b)
one_bit d n z x i k b ed ex at hb = ap (λ (m : ℕ). bit_at m b) ex ∙ gathered-at n k z b hb ∙ ap (λ (j : ℕ). bit_at z j) (sym at) ∙ ap (λ (m : ℕ). bit_at z (place m i b)) (sym ed)

pub two_bits : (d z x y : ℕ) → d ≡ 2 → x ≡ gathered 2 32 (z / 2 ^ 1) → y ≡ gathered 2 32 (z / 2 ^ 0)
    → HoldBits d z (x ∷ y ∷ 0 ∷ 0 ∷ [])
two_bits d z x y e ex ey zero b hi hb = one_bit d 2 z x 0 1 b e ex refl hb
two_bits d z x y e ex ey (suc zero) b hi hb = one_bit d 2 z y 1 0 b e ey refl hb
two_bits d z x y e ex ey (suc (suc i)) b hi hb = absurd (omega arith)

pub three_bits : (d z x y v : ℕ) → d ≡ 3 → x ≡ gathered 3 32 (z / 2 ^ 2) → y ≡ gathered 3 32 (z / 2 ^ 1) → v ≡ gathered 3 32 (z / 2 ^ 0)
    → HoldBits d z (x ∷ y ∷ v ∷ 0 ∷ [])
three_bits d z x y v e ex ey ev zero b hi hb = one_bit d 3 z x 0 2 b e ex refl hb
three_bits d z x y v e ex ey ev (suc zero) b hi hb = one_bit d 3 z y 1 1 b e ey refl hb
three_bits d z x y v e ex ey ev (suc (suc zero)) b hi hb = one_bit d 3 z v 2 0 b e ev refl hb
three_bits d z x y v e ex ey ev (suc (suc (suc i))) b hi hb = absurd (omega arith)

pub four_bits : (d z x y v w : ℕ) → d ≡ 4 → x ≡ gathered 4 32 (z / 2 ^ 3) → y ≡ gathered 4 32 (z / 2 ^ 2) → v ≡ gathered 4 32 (z / 2 ^ 1) → w ≡ gathered 4 32 (z / 2 ^ 0)
    → HoldBits d z (x ∷ y ∷ v ∷ w ∷ [])
four_bits d z x y v w e ex ey ev ew zero b hi hb = one_bit d 4 z x 0 3 b e ex refl hb
four_bits d z x y v w e ex ey ev ew (suc zero) b hi hb = one_bit d 4 z y 1 2 b e ey refl hb
four_bits d z x y v w e ex ey ev ew (suc (suc zero)) b hi hb = one_bit d 4 z v 2 1 b e ev refl hb
four_bits d z x y v w e ex ey ev ew (suc (suc (suc zero))) b hi hb = one_bit d 4 z w 3 0 b e ew refl hb
four_bits d z x y v w e ex ey ev ew (suc (suc (suc (suc i)))) b hi hb = absurd (omega arith)

-- such places are the point of the address
pub spread_point : (d z : ℕ) (places : List ℕ) → length places ≡ 4 → d ≤ 4 → z ≤ last_address d → All (λ x. x < 2 ^ 32) places → HoldBits d z places
    → IsPoint d (take d places) × (address (take d places) ≡ z)
spread_point d z places four within le words bits =
    let long : length (take d places) ≡ d = length-take-le d places (omega arith) in
    let small : z < 2 ^ (32 * length (take d places)) = rw long (omega (arith, pow_pos (32 * d))) in
    let same : (i b : ℕ) → i < length (take d places) → b < 32 → bit_at (slice_index (take d places) i) b ≡ bit_at z (place (length (take d places)) i b) =
    λ i b lt hb. let lt' : i < d = omega arith in
    ap (λ (m : ℕ). bit_at m b) (get_or-take d places i 0 lt') ∙ bits i b lt' hb ∙ ap (λ (n : ℕ). bit_at z (place n i b)) (sym long) in
    ((long, All-take (λ (x : ℕ). x < 2 ^ 32) d places words), address-of_bits (take d places) z small same)
