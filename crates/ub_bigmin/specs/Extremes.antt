-- Least and greatest members of a set of numbers (of addresses: BIGMIN and LITMAX, Tropf and Herzog 1981).
use Rattle.std.specs.Prelude.{ℕ, ◌≤◌, ◌<◌, Option, MatchOption}

-- n is in the set, is not below z, and no member that is not below z is less
abbrev pub IsLeastFrom : (ℕ → Type 0) → ℕ → ℕ → Type 0
IsLeastFrom P z n = P n × (z ≤ n) × ((m : ℕ) → P m → z ≤ m → n ≤ m)

-- n is in the set, is not above z, and no member that is not above z is greater
abbrev pub IsGreatestUpTo : (ℕ → Type 0) → ℕ → ℕ → Type 0
IsGreatestUpTo P z n = P n × (n ≤ z) × ((m : ℕ) → P m → m ≤ z → m ≤ n)

-- the least member from z where there is one, else nothing
abbrev pub LeastFrom : (ℕ → Type 0) → ℕ → Option ℕ → Type 0
LeastFrom P z o = MatchOption o ((m : ℕ) → P m → m < z) (IsLeastFrom P z)

-- the greatest member up to z where there is one, else nothing
abbrev pub GreatestUpTo : (ℕ → Type 0) → ℕ → Option ℕ → Type 0
GreatestUpTo P z o = MatchOption o ((m : ℕ) → P m → z < m) (IsGreatestUpTo P z)

-- the least member of a set where there is one, else nothing; and the greatest
abbrev pub Least : (ℕ → Type 0) → Option ℕ → Type 0
Least P o = MatchOption o ((m : ℕ) → ¬ (P m)) (λ n. P n × ((m : ℕ) → P m → n ≤ m))

abbrev pub Greatest : (ℕ → Type 0) → Option ℕ → Type 0
Greatest P o = MatchOption o ((m : ℕ) → ¬ (P m)) (λ n. P n × ((m : ℕ) → P m → m ≤ n))
