-- What contracts see of a store whose changed pages are in memory.
use Rattle.std.specs.Prelude.{◌<◌, ◌≤◌, ℕ, List, true}
use Rattle.ub_store.specs.Facts.{StoreFacts, page_count}
use Rattle.ub_journal.specs.Image.{IsUntouched, put_all, resized}
use Rattle.ub_journal.specs.declared.journal.Change.{Change}
use Rattle.ub_overlay.specs.Changes.{AreBelow, Ascend, put_change}

-- the store below and its facts, the pages that were written or added since, or that a journal holds, each with its number, how many
-- pages there are, and how often memory was refused for a page that was to be written (a count that stays at the greatest u64)
pub record OverlayView (S : Type 0) : Type 0 where
  pub store : S
  pub below : StoreFacts
  pub changes : List Change
  pub count : ℕ
  pub failed : ℕ

module _ {S : Type 0} where
  -- the view of its parts
  abbrev pub overlay_view : S → StoreFacts → List Change → ℕ → ℕ → OverlayView S
  overlay_view store below changes count failed = record { store = store; below = below; changes = changes; count = count; failed = failed }

  -- its pages: those below, made so many, with the changes in their places
  abbrev pub pages_of : OverlayView S → List (List ℕ)
  pages_of v = put_all v.changes (resized v.count v.below.pages)

  -- its facts: those of the store below, but for the pages, which last as long as memory does, and the failures of its own. Each page
  -- that is written may be refused
  abbrev pub overlay_facts : OverlayView S → StoreFacts
  overlay_facts v = record v.below {
    can_fail = true;
    pages = pages_of v;
    synced = pages_of v;
    failed_writes = v.failed;
  }

  -- of the page of this number memory is held: it was written or added
  abbrev pub IsHeld : OverlayView S → ℕ → Type 0
  IsHeld v n = ¬ (IsUntouched v.changes n)

  -- a change more, or another page in the place of one
  abbrev pub with_change : Change → OverlayView S → OverlayView S
  with_change c v = record v { changes = put_change c v.changes }

  -- the changes ascend; each is of a page that there is; each page that there is, and not below, is one of them; and where there are
  -- pages below there are some
  pub record IsOverlay (v : OverlayView S) : Type 0 where
    pub ascend : Ascend v.changes
    pub within : AreBelow v.count v.changes
    pub some : 0 < page_count v.below → 0 < v.count
    pub added : (n : ℕ) → page_count v.below ≤ n → n < v.count → IsHeld v n
