-- How many of the lowest pages on the way to a key are full.
use Rattle.std.specs.Prelude.{length, ◌≡◌, ◌<◌, ◌⊎◌, ℕ, zero, suc, List, Option}
use Rattle.ub_index.specs.Fitting.{FallsTo}
use Rattle.ub_index.specs.Index.{entries_of, NamesFitting}
use Rattle.ub_region.specs.declared.entry.Entry.{Entry}
use Rattle.ub_table.specs.declared.row.Key.{Key}
use Rattle.ub_page.specs.declared.entries.TheConstants.{MAX_ENTRIES}

-- from an entry of this level each page on the way to the key fits, and has 170 entries
abbrev pub IsFullWay : ℕ → List (List ℕ) → Key → ℕ → Entry → Option Key → Type 0
IsFullWay last pages key zero entry end = Unit {0}
IsFullWay last pages key (suc level) entry end =
    NamesFitting last pages (suc level) entry end
    × (length (entries_of pages entry.page) ≡ MAX_ENTRIES)
    × (below : Entry) × (after : Option Key) × FallsTo key (entries_of pages entry.page) end below after
    × IsFullWay last pages key level below after

-- from an entry of this level each page on the way to the key fits; so many of them, the lowest, have 170 entries, and the next one
-- up, if there is one, has fewer
abbrev pub EndsFull : ℕ → List (List ℕ) → Key → ℕ → Entry → Option Key → ℕ → Type 0
EndsFull last pages key zero entry end full = full ≡ 0
EndsFull last pages key (suc level) entry end full =
    ((full ≡ suc level) × IsFullWay last pages key (suc level) entry end)
    ⊎ (NamesFitting last pages (suc level) entry end
    × (full ≡ level → length (entries_of pages entry.page) < MAX_ENTRIES)
    × (below : Entry) × (after : Option Key) × FallsTo key (entries_of pages entry.page) end below after
    × EndsFull last pages key level below after full)
