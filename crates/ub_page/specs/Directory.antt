-- The pages of a table's directory, format 1.
use Rattle.std.specs.Prelude.{◌≡◌, ◌≢◌, ◌≤◌, ◌<◌, ◌^◌, ◌++◌, ℕ, List, [], ◌∷◌, length}
use Rattle.std.specs.List.{flat_map, AllByRecursion}
use Rattle.ub_zaddr.specs.Address.{last_address}
use Rattle.ub_bytes.specs.Bytes.{number_at, layout, padded}
use Rattle.ub_page.specs.Entries.{AreAscending, IsEntry, entry_bytes, entries_on}
use Rattle.ub_region.specs.declared.entry.Entry.{Entry}
use Rattle.ub_page.specs.declared.entries.TheConstants.{MAX_ENTRIES}
use Rattle.ub_table.specs.declared.fault.PageFault.TheVariants.{WrongKind, BadCount, BadRow, BadOrder, BadPadding}
use Rattle.ub_table.specs.declared.fault.PageFault.{PageFault}

-- what a page of the directory tells: the entries, and the next page of the directory, 0 for none
pub record Listing : Type 0 where
  pub entries : List Entry
  pub next : ℕ

-- what a page of the directory can hold, in a space of so many dimensions
pub record IsListing (dims : ℕ) (listing : Listing) : Type 0 where
  pub some : 1 ≤ length listing.entries
  pub few : length listing.entries ≤ MAX_ENTRIES
  pub entries : AllByRecursion (IsEntry (last_address dims)) listing.entries
  pub ascending : AreAscending listing.entries
  pub next : listing.next < 2 ^ 32

-- 'D', a zero, the count of entries, the next page, and zeros
abbrev pub head_fields : ℕ → ℕ → List (ℕ × ℕ)
head_fields count next = (1, 0x44) ∷ (1, 0) ∷ (2, count) ∷ (4, next) ∷ (8, 0) ∷ []

-- the one spelling of a page of the directory
unfoldable pub directory_page : Listing → List ℕ
directory_page listing =
    padded (layout (head_fields (length listing.entries) listing.next) ++ flat_map entry_bytes listing.entries)

-- what the page tells, if it is one of the directory
abbrev pub listing_on : List ℕ → Listing
listing_on page = record { entries = entries_on 16 (number_at 2 2 page) page; next = number_at 4 4 page }

-- the page begins with 'D'
abbrev pub IsDirectoryKind : List ℕ → Type 0
IsDirectoryKind page = number_at 1 0 page ≡ 0x44

-- it tells of 1 to 170 entries
abbrev pub HasCount : List ℕ → Type 0
HasCount page = (1 ≤ number_at 2 2 page) × (number_at 2 2 page ≤ MAX_ENTRIES)

abbrev pub HasEntries : ℕ → List ℕ → Type 0
HasEntries dims page = AllByRecursion (IsEntry (last_address dims)) (listing_on page).entries

-- the refusal is the first that holds of the page, in a space of so many dimensions
abbrev pub IsDirectoryFault : ℕ → List ℕ → PageFault → Type 0
IsDirectoryFault dims page WrongKind = ¬ (IsDirectoryKind page)
IsDirectoryFault dims page BadCount = IsDirectoryKind page × (¬ (HasCount page))
IsDirectoryFault dims page BadRow = IsDirectoryKind page × HasCount page × (¬ (HasEntries dims page))
IsDirectoryFault dims page BadOrder =
    IsDirectoryKind page × HasCount page × HasEntries dims page × (¬ (AreAscending (listing_on page).entries))
IsDirectoryFault dims page BadPadding =
    IsDirectoryKind page × HasCount page × HasEntries dims page × AreAscending (listing_on page).entries
    × ((listing : Listing) → IsListing dims listing → page ≢ directory_page listing)
IsDirectoryFault dims page _ = ⊥
