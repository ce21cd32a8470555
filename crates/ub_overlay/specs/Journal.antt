-- The journal that makes the pages of an overlay of those below it.
use Rattle.std.specs.Prelude.{◌≡◌, ℕ, List, Option}
use Rattle.std.specs.Option.{unwrap_or}
use Rattle.ub_journal.specs.Image.{ChangesOthers, Fits, HasFront, Journal, applied}
use Rattle.ub_journal.specs.declared.journal.Change.{Change}
use Rattle.ub_overlay.specs.Changes.{Ascend}
use Rattle.ub_overlay.specs.Overlay.{OverlayView, pages_of}

-- the changed pages of an overlay that was taken apart: the first one, if it was changed, how many pages there are to be, and the
-- others, each with its number
pub record ChangedView : Type 0 where
  pub first : Option (List ℕ)
  pub count : ℕ
  pub others : List Change

abbrev pub changed_view : Option (List ℕ) → ℕ → List Change → ChangedView
changed_view first count others = record { first = first; count = count; others = others }

-- the journal that puts these pages into a table with this first page: the first page is as it was changed, or as it was
abbrev pub journal_from : List ℕ → ChangedView → Journal
journal_from before c = record { before = before; head = unwrap_or c.first before; count = c.count; changes = c.others }

-- a journal of the pages below, which makes the pages of the overlay of them: what a commit asks of it
pub record IsJournalOf {S : Type 0} (v : OverlayView S) (j : Journal) : Type 0 where
  pub front : HasFront j v.below.pages
  pub fits : (rest : ℕ) → Fits j v.below.pages rest
  pub others : ChangesOthers j
  pub ascend : Ascend j.changes
  pub makes : applied j v.below.pages ≡ pages_of v
