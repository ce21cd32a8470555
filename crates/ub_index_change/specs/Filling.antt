-- How full the pages of an index are that has only grown: each but the root is half full.
use Rattle.std.specs.Prelude.{◌≡◌, ◌≤◌, ◌/◌, ◌⊎◌, ℕ, zero, suc, List, length}
use Rattle.std.specs.List.{AllByRecursion}
use Rattle.ub_index_change.specs.Changing.{Stand, StayBut}
use Rattle.ub_index.specs.Index.{entries_of, top}
use Rattle.ub_index_change.specs.Making.{changed}
use Rattle.ub_index_change.specs.Preparing.{ChangeView}
use Rattle.ub_index.specs.View.{pages_of_index, IndexView}
use Rattle.ub_region.specs.declared.entry.Entry.{Entry}
use Rattle.ub_store.specs.Facts.{StoreFacts}
use Rattle.ub_page.specs.declared.entries.TheConstants.{MAX_ENTRIES}

-- the page that an entry of this level names has half of the entries at least that a page can have, and so has each page below it
abbrev pub IsHalfFull : List (List ℕ) → ℕ → Entry → Type 0
IsHalfFull pages zero entry = Unit {0}
IsHalfFull pages (suc level) entry =
    (MAX_ENTRIES / 2 ≤ length (entries_of pages entry.page)) × AllByRecursion (IsHalfFull pages level) (entries_of pages entry.page)

-- each page below the root is half full, and the root has two entries at least, unless it is of level 1
abbrev pub IsFilledRoot : List (List ℕ) → ℕ → Entry → Type 0
IsFilledRoot pages zero root = ⊥
IsFilledRoot pages (suc level) root =
    ((level ≡ 0) ⊎ (2 ≤ length (entries_of pages root.page))) × AllByRecursion (IsHalfFull pages level) (entries_of pages root.page)

-- an index that is filled so, as one is that has only grown
abbrev pub IsFilled : IndexView → List (List ℕ) → Type 0
IsFilled index pages = IsFilledRoot pages index.levels (top index.root)

-- once what a change spells stands, and the other pages of the index are as they were, the index is filled, if it was
abbrev pub KeepsFilled : IndexView → StoreFacts → ChangeView → Type 0
KeepsFilled index old change =
    (later : List (List ℕ)) → Stand later change.sheets → StayBut old.pages later change.sheets (pages_of_index index old)
    → IsFilled index old.pages → IsFilled (changed index change) later
