-- What holds of journals' pages.
use Rattle.std.specs.Prelude.{◌≡◌, ℕ, List}
use Rattle.ub_journal.specs.Image.{Journal, ChangesOthers, IsJournal}
use Rattle.ub_journal_page.specs.Reading.{Spells}

-- a journal is read back: the same pages spell no two, of whichever version
abbrev pub JournalsAreReadBack : Type 0
JournalsAreReadBack = (pages : List (List ℕ)) (a b : Journal) → Spells pages a → Spells pages b → a ≡ b

-- its changes are of other pages than the first, and of pages that the table is to have
abbrev pub JournalsChangeOthers : Type 0
JournalsChangeOthers = (j : Journal) → IsJournal j → ChangesOthers j
