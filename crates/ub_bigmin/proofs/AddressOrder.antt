-- Addresses and coordinates, for points of a shape of d dimensions.
use Rattle.std.proofs.Common.{◌≡◌, ◌≤◌, ◌<◌, ◌*◌, ◌^◌, ℕ, List, length, slice_index, ap, ◌∙◌, sym, arith}
use Rattle.std.specs.Int.{bit_at}
use Rattle.ub_zaddr.specs.Address.{address, place, IsAtMost, IsPoint}
use Rattle.ub_zaddr.proofs.Laws.{address-order, address-bit, address-lt}
use Rattle.ub_bigmin.proofs.PointFacts.{IsPoint-below}

pub address-mono : (d : ℕ) (p q : List ℕ) → IsPoint d q → IsAtMost p q → address p ≤ address q
address-mono d p q h le = address-order d p q (IsPoint-below d p q le h) h le

pub bit_at-address : (d : ℕ) (p : List ℕ) (i b : ℕ) → IsPoint d p → i < d → b < 32 → bit_at (address p) (place d i b) ≡ bit_at (slice_index p i) b
bit_at-address d p i b h hi hb =
    let long = h.0 in
    ap (λ (n : ℕ). bit_at (address p) (place n i b)) (sym long) ∙ address-bit p i b (omega arith) hb

pub address-below : (d : ℕ) (p : List ℕ) → IsPoint d p → address p < 2 ^ (32 * d)
address-below d p h = let lt = address-lt p in let same : 2 ^ (32 * length p) ≡ 2 ^ (32 * d) = ap (λ (n : ℕ). 2 ^ (32 * n)) h.0 in omega arith
