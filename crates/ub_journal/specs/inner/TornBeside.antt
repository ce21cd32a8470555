-- What a place in memory that keeps its calls looks up of draft and journal.
use Rattle.std.specs.Prelude.{◌≡◌, Option, Some, None, option_map}
use Rattle.std.specs.Borrow.{Bor}
use Rattle.ub_store.specs.Facts.{zero_page}
use Rattle.ub_journal.specs.Image.{Image, Journal, begun, told}
use Rattle.ub_journal.specs.declared.journal.Journal as declared
use Rattle.ub_journal.specs.declared.torn.Beside.{Beside}

-- a draft that was written, or what is told of one where none was
abbrev pub drafted : Option (Bor declared.Journal) → Journal
drafted (Some j) = told j.now
drafted None = begun zero_page zero_page 0

-- the draft and the journal that are seen
pub record IsBeside (b : Beside) (i : Image) : Type 0 where
  pub draft : i.draft ≡ drafted b.draft
  pub journal : i.journal ≡ option_map drafted b.journal
