-- What is known of the pages that a pager holds.
use Rattle.std.specs.Prelude.{◌≡◌, ◌⊎◌, ℕ, Bool, false, List, Some}
use Rattle.ub_index.specs.Common.{IsHonest, IsIndexKind, IsIndexPage, page_at, PagerView}

-- over an honest store each page that is held is one of an index, or doesn't begin as one does: so the ends of one tell whether it fits
abbrev pub AreChecked : ℕ → PagerView → Type 0
AreChecked last pager =
    IsHonest pager.store → (n : ℕ) (page : List ℕ) → page_at pager.cached n ≡ Some page → IsIndexPage last page ⊎ (¬ (IsIndexKind page))

abbrev pub KeepsChecked : ℕ → PagerView → PagerView → Type 0
KeepsChecked last old new = AreChecked last old → AreChecked last new

-- under no number a page is held that wasn't, but one of an index, which was checked in full
abbrev pub NoneMoreButIndex : ℕ → List (ℕ × List ℕ) → List (ℕ × List ℕ) → Type 0
NoneMoreButIndex last old new = (n : ℕ) (page : List ℕ) → page_at new n ≡ Some page → (page_at old n ≡ Some page) ⊎ IsIndexPage last page

-- the page was read in this call, or was held, and so was checked before
abbrev pub WasChecked : Bool → ℕ → List ℕ → Type 0
WasChecked is_read last page = is_read ≡ false → IsIndexPage last page ⊎ (¬ (IsIndexKind page))
