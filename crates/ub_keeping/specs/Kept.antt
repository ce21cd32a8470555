-- What is kept at a place.
use Rattle.std.specs.Prelude.{◌≡◌, ◌+◌, ◌⊎◌, ℕ, List, [], ◌∷◌, None, drop, length}
use Rattle.ub_files.specs.Files.{IsPartWay}
use Rattle.ub_journal.specs.Image.{Image, Journal, Stands, StandsForOld, first_page}
use Rattle.ub_journal.specs.Place.{IsAtRest, PlaceFacts}
use Rattle.ub_journal.specs.declared.journal.Change.{Change}
use Rattle.ub_keeping.specs.Found.{MayFinish}

-- these are the pages of the table, with no bytes after them, they last, and no journal is there
pub record IsKept (pages : List (List ℕ)) (facts : PlaceFacts) : Type 0 where
  pub rest : IsAtRest facts
  pub table : facts.seen.table ≡ pages
  pub whole : facts.seen.rest ≡ 0

-- what a crash leaves while these pages are kept: what it might have left before, or what stands for the table as it was, or for them
abbrev pub MayKeep : List (List ℕ) → PlaceFacts → Image → Type 0
MayKeep pages old image = old.may_leave image ⊎ (StandsForOld old.seen image ⊎ Stands image pages 0)

-- what a crash leaves while a table is made of these pages where one stood: what it might have left before, or what stands for what was
-- found, or for them
abbrev pub MayMake : List (List ℕ) → PlaceFacts → Image → Type 0
MayMake pages old image = MayFinish old image ⊎ Stands image pages 0

-- no journal is there, and a table of these pages has come so far that what is there is a part of it, which is no table
abbrev pub IsPartOf : List (List ℕ) → Image → Type 0
IsPartOf pages image = (image.journal ≡ None) × IsPartWay pages image.table

-- what a crash leaves while a table is made of these pages where no page was: what it might have left before, or a part of it
abbrev pub MayBegin : List (List ℕ) → PlaceFacts → Image → Type 0
MayBegin pages old image = old.may_leave image ⊎ IsPartOf pages image

-- pages under their numbers, the first of which is this one
abbrev pub numbered : ℕ → List (List ℕ) → List Change
numbered n [] = []
numbered n (page ∷ pages) = record { number = n; page = page } ∷ numbered (n + 1) pages

-- the journal that makes these pages of any table with this first page: all others change
abbrev pub replacing : List ℕ → List (List ℕ) → Journal
replacing before pages = record {
  before = before;
  head = first_page pages;
  count = length pages;
  changes = numbered 1 (drop 1 pages);
}
