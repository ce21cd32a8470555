-- Entries, as they stand on the pages of a directory and of an index.
use Rattle.std.specs.Prelude.{◌≤◌, ◌<◌, ◌+◌, ◌^◌, ◌++◌, ℕ, zero, suc, List, [], ◌∷◌, length}
use Rattle.std.specs.List.{flat_map}
use Rattle.ub_bytes.specs.Bytes.{number_at, layout, padded}
use Rattle.ub_region.specs.declared.entry.Entry.{Entry}
use Rattle.ub_table.specs.Keys.{IsBefore}
use Rattle.ub_table.specs.declared.row.Key.{Key}
use Rattle.ub_table.specs.declared.row.TheConstants.{MAX_ROW_NUMBER}

-- each entry's first key is before the next entry's
abbrev pub AreAscending : List Entry → Type 0
AreAscending [] = Unit {0}
AreAscending (a ∷ []) = Unit {0}
AreAscending (a ∷ b ∷ entries) = IsBefore a.first b.first × AreAscending (b ∷ entries)

-- the address is in the space, the number is a row's or 0, and the page is not the first
pub record IsEntry (last : ℕ) (entry : Entry) : Type 0 where
  pub z : entry.first.z ≤ last
  pub number : entry.first.number ≤ MAX_ROW_NUMBER
  pub some_page : 1 ≤ entry.page
  pub page : entry.page < 2 ^ 32

-- an entry on 24 bytes
abbrev pub entry_fields : Entry → List (ℕ × ℕ)
entry_fields entry = (16, entry.first.z) ∷ (4, entry.first.number) ∷ (4, entry.page) ∷ []

abbrev pub entry_bytes : Entry → List ℕ
entry_bytes entry = layout (entry_fields entry)

-- the kind of a page of entries, its level, the count of entries, the next page, and zeros
abbrev pub page_fields : ℕ → ℕ → ℕ → ℕ → List (ℕ × ℕ)
page_fields kind level count next = (1, kind) ∷ (1, level) ∷ (2, count) ∷ (4, next) ∷ (8, 0) ∷ []

-- a page of entries
abbrev pub entries_page : ℕ → ℕ → ℕ → List Entry → List ℕ
entries_page kind level next entries = padded (layout (page_fields kind level (length entries) next) ++ flat_map entry_bytes entries)

-- the key that stands at an offset of a page
abbrev pub key_on : ℕ → List ℕ → Key
key_on offset page = record { z = number_at 16 offset page; number = number_at 4 (offset + 16) page }

-- the entry that stands at an offset of a page
abbrev pub entry_on : ℕ → List ℕ → Entry
entry_on offset page = record { first = key_on offset page; page = number_at 4 (offset + 20) page }

-- so many entries, one after the other
abbrev pub entries_on : ℕ → ℕ → List ℕ → List Entry
entries_on offset zero page = []
entries_on offset (suc n) page = entry_on offset page ∷ entries_on (offset + 24) n page
