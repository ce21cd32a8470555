-- The pages of a directory of format 1: a chain, each page of which names the next one.
use Rattle.std.specs.Prelude.{◌≡◌, ◌≤◌, ℕ, List, [], ◌∷◌, Some, length, take, drop, slice_get}
use Rattle.ub_page.specs.Directory.{directory_page}
use Rattle.ub_region.specs.declared.entry.Entry.{Entry}
use Rattle.ub_page.specs.declared.entries.TheConstants.{MAX_ENTRIES}

-- the pages of this chain spell the entries, 170 on each but the last, each naming the next page
abbrev pub IsChain : List (List ℕ) → List ℕ → List Entry → Type 0
IsChain pages [] entries = ⊥
IsChain pages (n ∷ []) entries =
    (1 ≤ length entries) × (length entries ≤ MAX_ENTRIES) × (slice_get pages n ≡ Some (directory_page (record { entries = entries; next = 0 })))
IsChain pages (n ∷ m ∷ chain) entries =
    (slice_get pages n ≡ Some (directory_page (record { entries = take MAX_ENTRIES entries; next = m }))) × (length (take MAX_ENTRIES entries) ≡ MAX_ENTRIES)
    × IsChain pages (m ∷ chain) (drop MAX_ENTRIES entries)
