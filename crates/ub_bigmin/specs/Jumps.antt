-- Jumps from an address outside a box: to the cells that meet the box, and to the nearest point there.
use Rattle.std.specs.Prelude.{◌≡◌, ℕ, ◌+◌, ◌-◌, ◌*◌, ◌/◌, ◌^◌, ◌<◌, ◌≤◌, ◌⊎◌, List, length, slice_index}
use Rattle.std.specs.Int.{bit_at}
use Rattle.ub_bigmin.specs.Box.{Corners}
use Rattle.ub_bigmin.specs.Cells.{prefix, free_below, IsPrefixOf, IsMet, IsNeed, nearest_with}

-- at bit k of dimension i the point c has the other bit than v, and the cell with v there meets the box
abbrev pub IsJump : Corners → List ℕ → ℕ → ℕ → ℕ → Type 0
IsJump b c v i k = (k < 32) × (bit_at (slice_index c i) k + v ≡ 1) × IsMet b c i k v

-- such a bit of one dimension: from the floor that the other dimensions set, with the prefix of some coordinate of the box
abbrev pub IsOwnJump : ℕ → ℕ → ℕ → ℕ → ℕ → ℕ → Type 0
IsOwnJump low high x floor v k = (k < 32) × (bit_at x k + v ≡ 1) × (floor ≤ k) × IsPrefixOf low high (prefix x k v) k

-- the place in four dimensions of bit k of dimension i; the places in fewer dimensions have the same order
abbrev pub wide_place : ℕ → ℕ → ℕ
wide_place i k = k * 4 + (3 - i)

-- so many places of four dimensions have to be free for the n low bits of dimension j to be free
abbrev pub wide_need : ℕ → ℕ → ℕ
wide_need j n = n * 4 - j

-- dimension j of the point c needs n free bits
abbrev pub NeedsBits : Corners → List ℕ → ℕ → ℕ → Type 0
NeedsBits b c j n = IsNeed (slice_index b.lo j) (slice_index b.hi j) (slice_index c j) n

-- of the first t dimensions `dimension` needs the most places, and `next` is the most that another needs
pub record AreNeeds (b : Corners) (c : List ℕ) (t highest dimension next : ℕ) : Type 0 where
  pub below : highest ≤ 128
  pub ordered : next ≤ highest
  pub all : (j n : ℕ) → j < t → NeedsBits b c j n → wide_need j n ≤ highest
  pub others : (j n : ℕ) → j < t → (j ≡ dimension → ⊥) → NeedsBits b c j n → wide_need j n ≤ next
  pub highest_is : (highest ≡ 0) ⊎ ((n : ℕ) × (dimension < t) × NeedsBits b c dimension n × (highest ≡ wide_need dimension n))
  pub next_is : (next ≡ 0) ⊎ ((j n : ℕ) × (j < t) × (j ≡ dimension → ⊥) × NeedsBits b c j n × (next ≡ wide_need j n))

-- no jump in the first t dimensions
abbrev pub HasNoJump : Corners → List ℕ → ℕ → ℕ → Type 0
HasNoJump b c v t = (i k : ℕ) → i < t → IsJump b c v i k → ⊥

-- the jump of the first t dimensions at the lowest place
abbrev pub IsLowestJump : Corners → List ℕ → ℕ → ℕ → ℕ → ℕ → Type 0
IsLowestJump b c v t dimension bit =
    (dimension < t) × IsJump b c v dimension bit
    × ((i k : ℕ) → i < t → IsJump b c v i k → wide_place dimension bit ≤ wide_place i k)

-- coordinate j of the nearest point of the box in the cell
abbrev pub IsNearestAt : Corners → List ℕ → ℕ → ℕ → ℕ → ℕ → ℕ → Type 0
IsNearestAt b c i k v j x =
    ((j ≡ i) × (x ≡ nearest_with (slice_index b.lo j) (slice_index b.hi j) (prefix (slice_index c j) k v) k v))
    ⊎ ((j ≡ i → ⊥) × (x ≡ nearest_with (slice_index b.lo j) (slice_index b.hi j) (slice_index c j / 2 ^ free_below i k j) (free_below i k j) v))

abbrev pub IsNearestPoint : Corners → List ℕ → ℕ → ℕ → ℕ → List ℕ → Type 0
IsNearestPoint b c i k v q = (length q ≡ length c) × ((j : ℕ) → j < length c → IsNearestAt b c i k v j (slice_index q j))
