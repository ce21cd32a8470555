-- The address of a point on the Z-curve (Bayer 1997; the Morton code).
use Rattle.std.specs.Prelude.{◌≡◌, ℕ, zero, suc, ◌+◌, ◌-◌, ◌*◌, ◌^◌, ◌<◌, ◌≤◌, Bool, nat_lt, ◌==◌, ◌&&◌, ◌||◌, List, length, slice_index, All}
use Rattle.std.specs.Int.{bit_at}

-- f 0 + f 1 + .. + f (n - 1)
abbrev pub sum_below : (ℕ → ℕ) → ℕ → ℕ
sum_below f zero = 0
sum_below f (suc n) = sum_below f n + f n

-- a point of d dimensions is d coordinates of 32 bits
abbrev pub IsPoint : ℕ → List ℕ → Type 0
IsPoint d p = (length p ≡ d) × All (λ x. x < 2 ^ 32) p

-- the place in the address of bit b of dimension i, of d dimensions
abbrev pub place : ℕ → ℕ → ℕ → ℕ
place d i b = b * d + (d - 1 - i)

-- the sum, over bits b and dimensions i, of bit b of coordinate i times two to the power of its place
unfoldable pub address : List ℕ → ℕ
address p =
    sum_below (λ b. sum_below (λ i. bit_at (slice_index p i) b * 2 ^ place (length p) i b) (length p)) 32

-- the greatest address of d dimensions
abbrev pub last_address : ℕ → ℕ
last_address d = 2 ^ (32 * d) - 1

-- p is at most q in each coordinate
abbrev pub IsAtMost : List ℕ → List ℕ → Type 0
IsAtMost p q = (length p ≡ length q) × ((i : ℕ) → i < length p → slice_index p i ≤ slice_index q i)

-- whether p has a lower address than q, or else, where both have one address, what is told of that
abbrev pub is_below : List ℕ → List ℕ → Bool → Bool
is_below p q same = nat_lt (address p) (address q) || ((address p == address q) && same)
