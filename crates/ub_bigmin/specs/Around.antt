-- What the search for the neighbours of an address in a box knows on its way (Tropf and Herzog 1981).
use Rattle.std.specs.Prelude.{◌≡◌, ℕ, ◌<◌, ◌≤◌, ◌/◌, ◌^◌, ◌⊎◌, List, Option, IfSome, IsSomeAnd}
use Rattle.ub_zaddr.specs.Address.{address, IsAtMost}
use Rattle.ub_bigmin.specs.Box.{Corners, IsInside, Holds}
use Rattle.ub_bigmin.specs.Extremes.{LeastFrom, GreatestUpTo}

-- the address m is not z, and the neighbour found on its side of z is at least as near to z
abbrev pub IsPassed : ℕ → Option ℕ → Option ℕ → ℕ → Type 0
IsPassed z below above m = ((m < z) × IsSomeAnd below (λ n. m ≤ n)) ⊎ ((z < m) × IsSomeAnd above (λ n. n ≤ m))

-- once the places from k up are read: the part of the box that agrees with z there is the box from low to high,
-- and of the rest below and above are the neighbours of z
pub record IsAround (b : Corners) (z k : ℕ) (low high : List ℕ) (below above : Option ℕ) : Type 0 where
  pub from : IsAtMost b.lo low
  pub ordered : IsAtMost low high
  pub to : IsAtMost high b.hi
  pub low_agrees : address low / 2 ^ k ≡ z / 2 ^ k
  pub high_agrees : address high / 2 ^ k ≡ z / 2 ^ k
  pub below_found : IfSome below (λ n. Holds b n × (n < z) × (n < address low))
  pub above_found : IfSome above (λ n. Holds b n × (z < n) × (address high < n))
  pub rest : (p : List ℕ) → IsInside b p → (IsAtMost low p × IsAtMost p high) ⊎ IsPassed z below above (address p)

-- below and above are the greatest address of the box up to z and the least from z
abbrev pub AreNeighbours : Corners → ℕ → Option ℕ → Option ℕ → Type 0
AreNeighbours b z below above = GreatestUpTo (Holds b) z below × LeastFrom (Holds b) z above
