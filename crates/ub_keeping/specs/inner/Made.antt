-- What a commit asks of a journal and of the table that stands there.
use Rattle.std.specs.Prelude.{◌≡◌, ◌≢◌, ◌<◌, ◌≤◌, ℕ, List, None, Some, length, slice_get}
use Rattle.ub_store.specs.Facts.{zero_page}
use Rattle.ub_journal.specs.Image.{ChangesOthers, Fits, HasFront, Image, Journal}
use Rattle.ub_journal.specs.Place.{IsHonest, PlaceFacts}

-- the journal was made of a table with these pages, whatever bytes stand after them
pub record IsMadeOf (j : Journal) (t : List (List ℕ)) : Type 0 where
  pub front : HasFront j t
  pub fits : (rest : ℕ) → Fits j t rest
  pub others : ChangesOthers j

-- the place is honest, and its table has a page
abbrev pub HasPage : PlaceFacts → Type 0
HasPage facts = IsHonest facts × (1 ≤ length facts.seen.table)

-- all these pages but the first stand there, as many as there are, with nothing else changed
pub record HasOthers (pages : List (List ℕ)) (old new : Image) : Type 0 where
  pub same : new ≡ record old { table = new.table }
  pub count : length new.table ≡ length pages
  pub others : (n : ℕ) → n ≢ 0 → slice_get new.table n ≡ slice_get pages n

-- those below this number but the first stand there
pub record PutsUpTo (n : ℕ) (pages : List (List ℕ)) (old new : Image) : Type 0 where
  pub same : new ≡ record old { table = new.table }
  pub count : length new.table ≡ length pages
  pub others : (m : ℕ) → m ≢ 0 → m < n → slice_get new.table m ≡ slice_get pages m

-- the first page is one of zeros, and no journal is there
abbrev pub HasZero : Image → Type 0
HasZero c = (c.journal ≡ None) × (slice_get c.table 0 ≡ Some zero_page)
