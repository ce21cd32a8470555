-- A new row: its values, as they come, and its number.
use Rattle.std.specs.Prelude.{FitsSigned}
use Rattle.std.proofs.Common.{◌≡◌, ◌<◌, ◌≤◌, ◌-◌, ◌^◌, ℕ, ℤ, zero, suc, List, ◌++◌, length, replicate, rules, get_or, Fits, w32}
use Rattle.ub_tree.proofs.Common.{All, All-append, All-from_recursion, AllByRecursion, HasRest, IsNumbered, IsRow, length-append, length-replicate, Row, row_of}
use Rattle.ub_tree.proofs.Common.{Suits}
use Rattle.std.proofs.lemmas.Grind.{get_or_default_zero}
use Rattle.std.proofs.Math.Facts.{Fits-lt-pow}
use Rattle.std.proofs.Math.Seq.{drop-append_seam}
use Rattle.std.specs.Int.{w64}

all_same : {X : Type 0} (P : X → Type 0) (x : X) (n : ℕ) → P x → AllByRecursion P (replicate n x)
all_same P x zero h = tt
all_same P x (suc n) h = (h, all_same P x n h)

rest_of : {X : Type 0} (x : X) (used : ℕ) (xs : List X) → length xs ≡ used → used ≤ 4 → HasRest x used (xs ++ replicate (4 - length xs) x)
rest_of x used xs h k = search (rules, drop-append_seam, length-append, length-replicate)

pub new_values : (dims measures n : ℕ) (ds : List ℕ) (ms : List ℤ) → length ds ≡ dims → length ms ≡ measures → dims ≤ 4 → measures ≤ 4
    → All (λ x. x < 2 ^ 32) ds → AllByRecursion (λ x. FitsSigned w64 x) ms → Suits dims measures (row_of n ds ms)
new_values dims measures n ds ms h k j l m o = search (rules, All-append, All-from_recursion, all_same, rest_of)

-- values that suit, with a number that a row has, are a row
pub numbered_row : (dims measures : ℕ) (row : Row) → Suits dims measures row → IsNumbered row → IsRow dims measures row
numbered_row dims measures row h k = search rules

pub words_of : (xs : List ℕ) → ((i : ℕ) → Fits w32 (get_or xs i 0)) → All (λ x. x < 2 ^ 32) xs
words_of xs fits k d lt = let fit = fits k in rw (get_or_default_zero xs k d lt) (Fits-lt-pow fit)
