-- What of a table tells whether a journal is one of it.
use Rattle.std.specs.Prelude.{◌≡◌, ◌≢◌, ◌<◌, ℕ, List, [], ◌∷◌, Some, slice_get}
use Rattle.ub_journal.specs.Image.{IsUntouched}
use Rattle.ub_journal.specs.declared.journal.Change.{Change}

-- the pages of these changes stand already
abbrev pub AreThere : List Change → List (List ℕ) → Type 0
AreThere [] t = Unit {0}
AreThere (c ∷ cs) t = (slice_get t c.number ≡ Some c.page) × AreThere cs t

-- of so many pages that the table is to have, those that these changes leave are among the first so many
abbrev pub LeaveFirst : ℕ → ℕ → List Change → Type 0
LeaveFirst pages count changes = (n : ℕ) → n < count → n ≢ 0 → IsUntouched changes n → n < pages
