-- What a call does to what is seen, and what a crash may leave of that.
use Rattle.std.specs.Prelude.{◌≡◌, ◌≢◌, ◌<◌, ◌≤◌, ◌⊎◌, ◌+◌, max, ℕ, List, Option, Some, None, length, slice_get, slice_set}
use Rattle.ub_journal.specs.Image.{Image, Journal, first_page, marked, resized}

-- with a page in the place of that of this number
abbrev pub with_page : ℕ → List ℕ → Image → Image
with_page n page i = record i { table = slice_set i.table n page }

-- with its first page marked
abbrev pub with_mark : Image → Image
with_mark i = record i { table = slice_set i.table 0 (marked (first_page i.table)) }

-- with so many pages, and no bytes after them
abbrev pub with_count : ℕ → Image → Image
with_count count i = record i { table = resized count i.table; rest = 0 }

-- with this draft
abbrev pub with_draft : Journal → Image → Image
with_draft j i = record i { draft = j }

-- with this journal, or none
abbrev pub with_journal : Option Journal → Image → Image
with_journal j i = record i { journal = j }

-- the draft has become the journal; what is the draft now is not said
abbrev pub IsPublished : Image → Image → Type 0
IsPublished old new = new ≡ record old { journal = Some old.draft; draft = new.draft }

-- nothing changed
abbrev pub Stays : Image → Image → Type 0
Stays old new = old ≡ new

-- a page was written, or torn: it may hold any bytes, and so may those between the end and it; the others are as they were
pub record TearsPage (n : ℕ) (old new : Image) : Type 0 where
  pub same : new ≡ record old { table = new.table; rest = new.rest }
  pub no_shorter : length old.table ≤ length new.table
  pub no_longer : length new.table ≤ max (length old.table) (n + 1)
  pub others : (m : ℕ) → m ≢ n → m < length old.table → slice_get new.table m ≡ slice_get old.table m
  pub rest : n < length old.table → new.rest ≡ old.rest

-- the mark of the first page was written, or torn: it may be any byte
pub record TearsMark (old new : Image) : Type 0 where
  pub same : new ≡ record old { table = new.table; rest = new.rest }
  pub byte : ℕ
  pub table : new.table ≡ slice_set old.table 0 (slice_set (first_page old.table) 5 byte)
  pub rest : 1 ≤ length old.table → new.rest ≡ old.rest

-- the file was cut or made longer, or was about to be: it may have any length up to the longer one, and what is new holds any bytes
pub record Resizes (count : ℕ) (old new : Image) : Type 0 where
  pub same : new ≡ record old { table = new.table; rest = new.rest }
  pub no_longer : length new.table ≤ max (length old.table) count
  pub kept : (m : ℕ) → m < count → m < length old.table → slice_get new.table m ≡ slice_get old.table m

-- the draft holds anything
abbrev pub Drafts : Image → Image → Type 0
Drafts old new = new ≡ record old { draft = new.draft }

-- the draft has become the journal, or not
abbrev pub Publishes : Image → Image → Type 0
Publishes old new = (new ≡ old) ⊎ IsPublished old new

-- the journal is gone, or not
abbrev pub Removes : Image → Image → Type 0
Removes old new = (new ≡ old) ⊎ (new ≡ record old { journal = None })
