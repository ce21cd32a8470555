-- Cells of the Z-curve: the addresses that agree with one address above a place, have a given bit there, and are free
-- below. By coordinates a cell is a box too: in each dimension the numbers with one prefix.
use Rattle.std.specs.Prelude.{◌≡◌, ℕ, ◌+◌, ◌-◌, ◌*◌, ◌/◌, ◌^◌, ◌<◌, ◌≤◌, ◌↔◌, List, length, slice_index, max, min, zero, suc}
use Rattle.ub_bigmin.specs.Box.{Corners}

-- the number x above bit k, then the bit v: a prefix, read from bit k up
abbrev pub prefix : ℕ → ℕ → ℕ → ℕ
prefix x k v = x / 2 ^ (k + 1) * 2 + v

-- how many low bits of dimension j have places below that of bit k of dimension i: k, and one more where j comes after i
abbrev pub free_below : ℕ → ℕ → ℕ → ℕ
free_below i k j = k + (1 - (i + 1 - j))

-- some number from low to high has the prefix x from bit k up (where low is at most high)
abbrev pub IsPrefixOf : ℕ → ℕ → ℕ → ℕ → Type 0
IsPrefixOf low high x k = (low / 2 ^ k ≤ x) × (x ≤ high / 2 ^ k)

-- the least and the greatest number from low to high with the prefix x from bit k up
abbrev pub least_with : ℕ → ℕ → ℕ → ℕ
least_with low x k = max low (x * 2 ^ k)

abbrev pub greatest_with : ℕ → ℕ → ℕ → ℕ
greatest_with high x k = min high (x * 2 ^ k + (2 ^ k - 1))

-- in each dimension but i the prefix of c is that of some coordinate of the box
abbrev pub AreOthersMet : Corners → List ℕ → ℕ → ℕ → Type 0
AreOthersMet b c i k = (j : ℕ) → j < length c → (j ≡ i → ⊥)
    → IsPrefixOf (slice_index b.lo j) (slice_index b.hi j) (slice_index c j / 2 ^ free_below i k j) (free_below i k j)

-- the cell meets the box: in each dimension its prefix is that of some coordinate of the box
abbrev pub IsMet : Corners → List ℕ → ℕ → ℕ → ℕ → Type 0
IsMet b c i k v = IsPrefixOf (slice_index b.lo i) (slice_index b.hi i) (prefix (slice_index c i) k v) k × AreOthersMet b c i k

-- so many low bits have to be free for the prefix of x to be that of some number from low to high
abbrev pub IsNeed : ℕ → ℕ → ℕ → ℕ → Type 0
IsNeed low high x n = (f : ℕ) → (n ≤ f) ↔ IsPrefixOf low high (x / 2 ^ f) f

-- from bit n of dimension i up the other dimensions have the free bits that they need
abbrev pub IsFloor : Corners → List ℕ → ℕ → ℕ → Type 0
IsFloor b c i n = (k : ℕ) → (n ≤ k) ↔ AreOthersMet b c i k

-- the number with the prefix x from bit k up that is nearest on the side where the bit v leads: the least from low for
-- 1, the greatest up to high for 0
abbrev pub nearest_with : ℕ → ℕ → ℕ → ℕ → ℕ → ℕ
nearest_with low high x k zero = greatest_with high x k
nearest_with low high x k (suc v) = least_with low x k
