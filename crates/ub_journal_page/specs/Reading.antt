-- What a reader of a journal's pages tells, and what it leaves of the store.
use Rattle.std.specs.Prelude.{◌≡◌, ◌⊎◌, ◌≤◌, ◌<◌, ◌+◌, ◌*◌, ◌^◌, ℕ, List, Some, length, slice_get, IsTrue, Result, Err, IsErrOf}
use Rattle.ub_journal.specs.Image.{Journal, IsJournal}
use Rattle.ub_store.specs.Facts.{StoreFacts, raised}
use Rattle.ub_journal_page.specs.Pages.{HasPages, byte_parts, head_of, number_page, pages_of}
use Rattle.ub_journal_page.specs.Whole.{total_of, whole_pages_of}
use Rattle.ub_journal.specs.declared.fault.JournalFault.{JournalFault}
use Rattle.ub_journal.specs.declared.fault.JournalFault.TheVariants.{Device}

-- the pages spell this journal: they are those of version 2, or those of version 1
abbrev pub Spells : List (List ℕ) → Journal → Type 0
Spells pages j = IsJournal j × (((pages ≡ pages_of j) × HasPages j.changes) ⊎ (pages ≡ whole_pages_of j))

-- they spell none
abbrev pub SpellsNone : List (List ℕ) → Type 0
SpellsNone pages = (j : Journal) → ¬ (Spells pages j)

-- the first page spells a head of this version, of a table that is to have so many pages, of which so many change besides the first
pub record IsHead (version count changes : ℕ) (pages : List (List ℕ)) : Type 0 where
  pub some : 1 ≤ count
  pub few : count < 2 ^ 32
  pub first : slice_get pages 0 ≡ Some (number_page (head_of version count changes))

-- so many pages bear out a head of this version with so many changes: of version 1 a journal has exactly so many, and of version 2 there
-- is room for what each change takes at least, its number and how many bytes it holds
abbrev pub BearsOut : ℕ → ℕ → ℕ → Type 0
BearsOut total version changes =
    ((version ≡ 1) × (total ≡ total_of changes))
    ⊎ ((version ≡ 2) × (3 + byte_parts (8 * changes) ≤ total))

-- the first page spells a head, and there are as many pages as that tells
pub record IsBorneOut (pages : List (List ℕ)) : Type 0 where
  pub version : ℕ
  pub count : ℕ
  pub changes : ℕ
  pub head : IsHead version count changes pages
  pub total : BearsOut (length pages) version changes

-- a count of failures after a call with this result: Device raises it by one, and nothing else does
abbrev pub counted : {A : Type 0} → Result A JournalFault → ℕ → ℕ
counted (Err Device) n = raised n 1
counted _ n = n

-- a call with this result that only reads: nothing changes but the count of failed reads, and Device comes where a read failed
pub record Looks {A : Type 0} (old new : StoreFacts) (result : Result A JournalFault) : Type 0 where
  pub same : new ≡ record old { failed_reads = counted result old.failed_reads }
  pub device : IsErrOf result Device → IsTrue old.can_fail
