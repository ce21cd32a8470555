-- What is found at a place.
use Rattle.std.specs.Prelude.{◌≡◌, ◌≢◌, ◌<◌, ◌⊎◌, ℕ, List, Option, Some, None, length}
use Rattle.ub_journal.specs.Image.{Finds, Fits, Image, Journal, Stands}
use Rattle.ub_journal.specs.Place.{PlaceFacts}

-- this journal is seen beside the table that it is of
abbrev pub IsItsJournal : Image → Journal → Type 0
IsItsJournal image j = (image.journal ≡ Some j) × Fits j image.table image.rest

-- the journal that is seen is none of the table, if one is seen
abbrev pub HasNoJournal : Image → Type 0
HasNoJournal image = (j : Journal) → image.journal ≡ Some j → ¬ (Fits j image.table image.rest)

-- the journal of the table, if one is seen
abbrev pub IsLookedUp : Image → Option Journal → Type 0
IsLookedUp image (Some j) = IsItsJournal image j
IsLookedUp image None = HasNoJournal image

-- a journal is seen that is none of the table
abbrev pub IsForeign : Image → Type 0
IsForeign image = (j : Journal) × (image.journal ≡ Some j) × ¬ (Fits j image.table image.rest)

-- what is found is no store's pages: there are more of them than 4294967295, or bytes stand after the last one
abbrev pub IsUnsized : Image → Type 0
IsUnsized image = (4294967295 < length image.table)
    ⊎ ((pages : List (List ℕ)) (after : ℕ) → Finds image pages after → (after ≢ 0) ⊎ (4294967295 < length pages))

-- these pages stand there by themselves: no journal is seen, and no bytes stand after them
pub record StandsAlone (image : Image) (pages : List (List ℕ)) : Type 0 where
  pub journal : image.journal ≡ None
  pub table : image.table ≡ pages
  pub rest : image.rest ≡ 0

-- it stands for what was found
abbrev pub StandsForFound : Image → Image → Type 0
StandsForFound old image = (pages : List (List ℕ)) (after : ℕ) → Finds old pages after → Stands image pages after

-- what a crash leaves while what is left of a change is finished: what it might have left before, or what stands for what was found
abbrev pub MayFinish : PlaceFacts → Image → Type 0
MayFinish old image = old.may_leave image ⊎ StandsForFound old.seen image
