-- The slots of a page of entries, and which of them a key falls to.
use Rattle.std.specs.Prelude.{◌≤◌, ◌<◌, ◌+◌, ◌*◌, ℕ, List}
use Rattle.ub_page.specs.Entries.{key_on, entry_on}
use Rattle.ub_region.specs.declared.entry.Entry.{Entry}
use Rattle.ub_table.specs.Keys.{IsBefore}
use Rattle.ub_table.specs.declared.row.Key.{Key}

-- the entry in a slot of a page, counted from 0
abbrev pub entry_in : ℕ → List ℕ → Entry
entry_in slot page = entry_on (16 + 24 * slot) page

-- where it begins
abbrev pub first_in : ℕ → List ℕ → Key
first_in slot page = key_on (16 + 24 * slot) page

-- a key falls to this slot of so many: the entry is the first, or doesn't begin after the key, and the next one does, if there is one
pub record IsSlot (key : Key) (count : ℕ) (page : List ℕ) (slot : ℕ) : Type 0 where
  pub within : slot < count
  pub begun : 1 ≤ slot → ¬ (IsBefore key (first_in slot page))
  pub next : slot + 1 < count → IsBefore key (first_in (slot + 1) page)
