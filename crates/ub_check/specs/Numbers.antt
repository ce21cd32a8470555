-- A set of numbers below a bound, a bit for each.
use Rattle.std.specs.Prelude.{◌≡◌, ◌≢◌, ◌<◌, ◌/◌, ◌%◌, ◌++◌, ◌↔◌, ℕ, List, [], ◌∷◌, slice_index_or}
use Rattle.std.specs.Int.{bit_at}
use Rattle.std.specs.List.{AllByRecursion}

-- the bound, and the bits of all numbers below it, 64 in each word
pub record NumbersView : Type 0 where
  pub bound : ℕ
  pub words : List ℕ

abbrev pub numbers_view : ℕ → List ℕ → NumbersView
numbers_view bound words = record { bound = bound; words = words }

-- the bit of a number
abbrev pub bit_of : List ℕ → ℕ → ℕ
bit_of words n = bit_at (slice_index_or words (n / 64) 0) (n % 64)

-- the number is none of these
abbrev pub IsNone : ℕ → List ℕ → Type 0
IsNone n numbers = AllByRecursion (λ m. n ≢ m) numbers

-- the set has just these numbers
abbrev pub HasJust : NumbersView → List ℕ → Type 0
HasJust set numbers = (n : ℕ) → (bit_of set.words n ≡ 0) ↔ IsNone n numbers

-- each of the numbers is below the bound, and none of them was met before
abbrev pub AreNew : ℕ → List ℕ → List ℕ → Type 0
AreNew bound met [] = Unit {0}
AreNew bound met (n ∷ numbers) = (n < bound) × IsNone n met × AreNew bound (met ++ n ∷ []) numbers
