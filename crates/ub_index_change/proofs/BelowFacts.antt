-- The numbers under which a change spells its pages: each is below that of the next page that the store gets.
use Rattle.std.proofs.Common.{◌≡◌, ◌∙◌, ℕ, zero, suc, List, [], ◌∷◌, Some, Result, Ok, Err, IfOk, slice_get, subst}
use Rattle.ub_index_change.proofs.Common.{AllByRecursion, Entry, IndexFault, IsAtMostOne, Mends, Sheet, Spelled, Told}
use Rattle.ub_index_change.proofs.FullFacts.{mends_takes}

-- what holds of each of the sheets holds of one at an index
pub sheet_at : (P : Sheet → Type 0) (sheets : List Sheet) (i : ℕ) (sheet : Sheet) → slice_get sheets i ≡ Some sheet → AllByRecursion P sheets → P sheet
sheet_at P [] i sheet at all = cc
sheet_at P (s ∷ sheets) zero sheet at all = let same : s ≡ sheet = cc in subst P same all.0
sheet_at P (s ∷ sheets) (suc i) sheet at all = sheet_at P sheets i sheet at all.1

-- where an entry becomes one at most, no page is new
pub still_on : (level : ℕ) (entry : Entry) (before : List Entry) (below : Entry) (after : List Entry) (news : Told) (from middle to : Spelled) (r : Result Told IndexFault)
    → IfOk r (Mends level entry before below after news middle to) → IfOk r IsAtMostOne → middle.next ≡ from.next → IfOk r (λ _. to.next ≡ from.next)
still_on level entry before below after news from middle to (Ok told) h few so_far = (mends_takes level entry before below after news middle to told h).0 few ∙ so_far
still_on level entry before below after news from middle to (Err e) h few so_far = tt
