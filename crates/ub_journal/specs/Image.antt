-- What stands on a disk for a table, and which pages it stands for.
use Rattle.std.specs.Prelude.{◌≡◌, ◌≢◌, ◌<◌, ◌≤◌, ◌⊎◌, ◌++◌, ◌^◌, ℕ, map, List, [], ◌∷◌, Option, Some, None, All, length, take, drop, replicate, slice_get, slice_index_or, slice_set}
use Rattle.ub_store.specs.Facts.{zero_page}
use Rattle.ub_journal.specs.declared.journal.Change.{Change}
use Rattle.ub_journal.specs.declared.journal.Journal as declared

-- what a journal says: the table's first page as it was and as it is to be, how many pages the table is to have, and the others
-- that change, each with its number
pub record Journal : Type 0 where
  pub before : List ℕ
  pub head : List ℕ
  pub count : ℕ
  pub changes : List Change

-- the same, of a journal in memory
abbrev pub told : declared.Journal → Journal
told j = record { before = j.before; head = j.head; count = j.count; changes = j.changes.items }

-- a journal that changes no page but the first
abbrev pub begun : List ℕ → List ℕ → ℕ → Journal
begun before head count = record { before = before; head = head; count = count; changes = [] }

-- what stands on a disk: the whole pages of the table's file, how many bytes stand after the last of them, a draft of a journal,
-- and the journal beside the file. A file of the journal's name that spells none is told as a journal of a table that is to have no
-- pages: that is one of no table
pub record Image : Type 0 where
  pub table : List (List ℕ)
  pub rest : ℕ
  pub draft : Journal
  pub journal : Option Journal

-- pages put in their places, one after the other
abbrev pub put_all : List Change → List (List ℕ) → List (List ℕ)
put_all [] t = t
put_all (c ∷ cs) t = put_all cs (slice_set t c.number c.page)

-- so many pages: cut, or with pages of zeros behind
abbrev pub resized : ℕ → List (List ℕ) → List (List ℕ)
resized count t = take count (t ++ replicate count zero_page)

-- the pages of a table with a journal's in their places
abbrev pub applied : Journal → List (List ℕ) → List (List ℕ)
applied j t = slice_set (put_all j.changes (resized j.count t)) 0 j.head

-- the first page, where there is one
abbrev pub first_page : List (List ℕ) → List ℕ
first_page t = slice_index_or t 0 zero_page

-- none of the changes is of the page of this number
abbrev pub IsUntouched : List Change → ℕ → Type 0
IsUntouched [] n = Unit {0}
IsUntouched (c ∷ cs) n = (c.number ≢ n) × IsUntouched cs n

-- a page, marked: its byte 5 is 1
abbrev pub marked : List ℕ → List ℕ
marked page = slice_set page 5 1

-- a page that is another one, but for its mark
abbrev pub IsMarkedFrom : List ℕ → List ℕ → Type 0
IsMarkedFrom before page = slice_set page 5 0 ≡ slice_set before 5 0

-- the first page is still the one from before, but for its mark
abbrev pub HasFront : Journal → List (List ℕ) → Type 0
HasFront j t = IsMarkedFrom j.before (first_page t)

-- all pages but the first are those of the new table already
abbrev pub HasBack : Journal → List (List ℕ) → Type 0
HasBack j t = (length t ≡ j.count)
    × ((n : ℕ) → n ≢ 0 → slice_get t n ≡ slice_get (applied j t) n)

-- the pages that the journal leaves as they are stand there
abbrev pub IsComplete : Journal → List (List ℕ) → Type 0
IsComplete j t = (n : ℕ) → n < j.count → n ≢ 0 → IsUntouched j.changes n → n < length t

-- a journal is one of a table with these pages, and with so many bytes after them: it was made of it, and nothing but its own
-- pages have been put since
pub record Fits (j : Journal) (t : List (List ℕ)) (rest : ℕ) : Type 0 where
  pub some : (1 ≤ j.count) × (1 ≤ length t)
  pub complete : IsComplete j t
  pub stands : HasFront j t ⊎ (HasBack j t × (rest ≡ 0))

-- the changes are of other pages than the first, and of pages that the new table has
abbrev pub ChangesOthers : Journal → Type 0
ChangesOthers j = All (λ change. (change.number ≢ 0) × (change.number < j.count)) j.changes

-- the numbers of the pages that change
abbrev pub numbers_of : List Change → List ℕ
numbers_of changes = map (λ change. change.number) changes

-- each number is above the one before it, the first one above this, and all are below the count
abbrev pub AreAscending : ℕ → ℕ → List ℕ → Type 0
AreAscending above count [] = Unit {0}
AreAscending above count (n ∷ ns) = (above < n) × (n < count) × AreAscending n count ns

-- a journal that pages can hold: the table is to have a page at least, and the changes are of other pages than the first, of pages
-- that it is to have, and in the order of their numbers
pub record IsJournal (j : Journal) : Type 0 where
  pub some : 1 ≤ j.count
  pub few : j.count < 2 ^ 32
  pub ascending : AreAscending 0 j.count (numbers_of j.changes)

-- what these pages, bytes after them and this journal stand for: those pages, with so many bytes after them. A journal that
-- isn't one of the table stands for nothing: that is never left
abbrev pub StandsFor : List (List ℕ) → ℕ → Option Journal → List (List ℕ) → ℕ → Type 0
StandsFor t rest None pages after = (pages ≡ t) × (after ≡ rest)
StandsFor t rest (Some j) pages after = Fits j t rest × (pages ≡ applied j t) × (after ≡ 0)

-- what stands on the disk stands for these pages, with so many bytes after them
abbrev pub Stands : Image → List (List ℕ) → ℕ → Type 0
Stands image pages after = StandsFor image.table image.rest image.journal pages after

-- it stands for the table as it was
abbrev pub StandsForOld : Image → Image → Type 0
StandsForOld old image = Stands image old.table old.rest

-- it stands for the table that the journal makes of it
abbrev pub StandsForNew : Journal → Image → Image → Type 0
StandsForNew j old image = Stands image (applied j old.table) 0

-- what the file is without its journal: the table as it was, but for its mark; or its first page is the one from before, marked, so
-- that it is refused; or all its other pages are those of the new table
abbrev pub IsAlone : Journal → Image → Image → Type 0
IsAlone j old image =
    ((drop 1 image.table ≡ drop 1 old.table) × IsMarkedFrom (first_page old.table) (first_page image.table)
    × (image.rest ≡ old.rest))
    ⊎ ((first_page image.table ≡ marked j.before) ⊎ (HasBack j image.table × (image.rest ≡ 0)))

-- what a crash may leave while the changes are put: it stands for the table as it was or for the new one, and so does the file
-- without its journal, or it is refused
abbrev pub IsBetween : Journal → Image → Image → Type 0
IsBetween j old image = (StandsForOld old image ⊎ StandsForNew j old image) × IsAlone j old image

-- what a crash leaves once the journal stands: it stands for the new table, and what was so of the file alone is so still
abbrev pub Recovers : Journal → Image → Image → Type 0
Recovers j seen image = StandsForNew j seen image
    × ((old : Image) → IsAlone j old seen → IsAlone j old image)

-- which pages are found there, with so many bytes after them: where the journal is one of the table those that it makes of it, and else
-- the table's own, whatever stands beside them
abbrev pub Finds : Image → List (List ℕ) → ℕ → Type 0
Finds image pages after =
    ((j : Journal) × (image.journal ≡ Some j) × Fits j image.table image.rest × (pages ≡ applied j image.table) × (after ≡ 0))
    ⊎ (((j : Journal) → image.journal ≡ Some j → ¬ (Fits j image.table image.rest)) × (pages ≡ image.table) × (after ≡ image.rest))
