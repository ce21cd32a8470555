-- How the number of a change compares with another one.
use Rattle.std.proofs.Common.{Less, Equal, Greater, ◌≡◌, ◌<◌, ℕ, sym, inl, inr, arith}
use Rattle.std.proofs.lemmas.Bool.{cases_eq, cases_lt}
use Rattle.std.specs.Ordering.{nat_cmp}
use Rattle.std.specs.Cmp.{nat_cmp_is}

-- how two numbers compare, and what that says of them
pub data Compared (a b : ℕ) : Type 0 where
  below : nat_cmp a b ≡ Less → a < b → Compared a b
  equal : nat_cmp a b ≡ Equal → a ≡ b → Compared a b
  above : nat_cmp a b ≡ Greater → b < a → Compared a b

pub compared : (a b : ℕ) → Compared a b
compared a b = elim (cases_lt a b) [
  | inl less ↦ below (sym (nat_cmp_is a b Less less)) less
  | inr no_less ↦ elim (cases_eq a b) [
    | inl same ↦ equal (sym (nat_cmp_is a b Equal same)) same
    | inr apart ↦ let more : b < a = omega (arith, no_less, apart) in above (sym (nat_cmp_is a b Greater more)) more
  ]
]
