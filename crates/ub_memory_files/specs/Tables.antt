-- What is told of table files in memory.
use Rattle.std.specs.Prelude.{◌≡◌, ◌⊎◌, ℕ, List, Option, Some, None, true, eqb, if◌then◌else◌}
use Rattle.ub_files.specs.Files.{HasPages, Held, pages, torn, untold}
use Rattle.ub_journal.specs.Image.{Image, Journal}
use Rattle.ub_store.specs.Facts.{IsHonest, StoreFacts}

-- of so many bytes after these pages: the pages, or that they are no whole number of pages
abbrev pub whole_or_torn : List (List ℕ) → ℕ → Held
whole_or_torn table rest = if eqb rest 0 then pages table else torn

-- the same where a journal stands beside them, or none: then nothing is told
abbrev pub held_beside : Option Journal → List (List ℕ) → ℕ → Held
held_beside None table rest = whole_or_torn table rest
held_beside (Some journal) table rest = untold

-- what is told of a table file at which this is seen
abbrev pub held_of : Image → Held
held_of image = held_beside image.journal image.table image.rest

-- where anything is told of a table file, it is what is told of this
abbrev pub IsSeenAs : Held → Image → Type 0
IsSeenAs held image = (held ≡ untold) ⊎ (held ≡ held_of image)

-- a store is honest, can fail and hasn't yet, and has the pages that are told
pub record IsLentOf (held : Held) (store : StoreFacts) : Type 0 where
  pub honest : IsHonest store
  pub can_fail : store.can_fail ≡ true
  pub unfailed : store.failed_writes ≡ 0
  pub stored : HasPages held store.pages
