-- Reading a directory of format 1: which pages are one, what is read of them, and why they are refused.
use Rattle.std.specs.Prelude.{◌≡◌, ◌≤◌, ◌<◌, ◌-◌, ◌^◌, ◌↔◌, ◌⊎◌, ◌++◌, ℕ, min, IsTrue, List, [], ◌∷◌, Some, length, take, drop, slice_get, slice_index_or, Option, None, Result, IfOk}
use Rattle.std.specs.List.{AllByRecursion}
use Rattle.ub_page.specs.declared.entries.TheConstants.{MAX_ENTRIES}
use Rattle.ub_zaddr.specs.Address.{last_address}
use Rattle.ub_page.specs.Directory.{Listing, IsListing, directory_page, IsDirectoryFault}
use Rattle.ub_page.specs.Entries.{IsEntry}
use Rattle.ub_region.specs.declared.entry.Entry.{Entry}
use Rattle.ub_store.specs.Facts.{StoreFacts, IsHonest, IsPage, page_count}
use Rattle.ub_table.specs.Keys.{origin, are_ascending}
use Rattle.ub_table.specs.declared.fault.PageFault.TheVariants.{BadCount, BadOrder}
use Rattle.ub_table.specs.declared.fault.PageFault.{PageFault}
use Rattle.ub_index.specs.Spans.{ArePlaces, first_keys}
use Rattle.ub_table.specs.declared.row.Key.{Key}
use Rattle.ub_upgrade.specs.Chain.{IsChain}
use Rattle.ub_upgrade.specs.declared.chain.Place.{Place}

-- what a header of format 1 tells of its directory: how many dimensions the table has, the page on which the directory begins, and
-- how many regions it has
pub record HeadingView : Type 0 where
  pub dims : ℕ
  pub root : ℕ
  pub regions : ℕ

abbrev pub heading_of : ℕ → ℕ → ℕ → HeadingView
heading_of dims root regions = record { dims = dims; root = root; regions = regions }

-- the pages hold such a directory, on this chain, of these entries
pub record IsDirectory (pages : List (List ℕ)) (heading : HeadingView) (chain : List ℕ) (entries : List Entry) : Type 0 where
  pub root_is : slice_get chain 0 ≡ Some heading.root
  pub some_pages : AllByRecursion (λ n. 1 ≤ n) chain
  pub directory : IsChain pages chain entries
  pub regions_are : heading.regions ≡ length entries
  pub each : AllByRecursion (IsEntry (last_address heading.dims)) entries
  pub places : ArePlaces (last_address heading.dims) entries

-- the page of this number, which is not the first, spells this part of a directory
pub record Spells (dims : ℕ) (pages : List (List ℕ)) (n : ℕ) (listing : Listing) : Type 0 where
  pub some : 1 ≤ n
  pub range : IsListing dims listing
  pub page : slice_get pages n ≡ Some (directory_page listing)

-- the pages of this chain spell the entries, 170 on each, each naming the next page and the last one this
abbrev pub AreFull : ℕ → List (List ℕ) → List ℕ → List Entry → ℕ → Type 0
AreFull dims pages [] entries next = entries ≡ []
AreFull dims pages (n ∷ chain) entries next =
    Spells dims pages n (record { entries = take MAX_ENTRIES entries; next = slice_index_or chain 0 next }) × (length (take MAX_ENTRIES entries) ≡ MAX_ENTRIES)
    × AreFull dims pages chain (drop MAX_ENTRIES entries) next

-- the first entries of a directory: the first one begins with the least key of all, and each after the one before it
abbrev pub AreBegun : List Entry → Type 0
AreBegun [] = Unit {0}
AreBegun (entry ∷ entries) = (entry.first ≡ origin) × IsTrue (are_ascending (first_keys (entry ∷ entries)))

-- where the last of these entries begins, if there is one
abbrev pub last_first : List Entry → Option Key
last_first [] = None
last_first (entry ∷ []) = Some entry.first
last_first (entry ∷ next ∷ entries) = last_first (next ∷ entries)

-- these are the entries of the pages before a place
pub record IsMet (before : List Entry) (place : Place) : Type 0 where
  pub met : place.met ≡ length before
  pub last : place.last ≡ last_first before

-- from its first page on the directory was read, full pages in order, up to the page of this number, and not all regions were met
pub record IsReadUpTo (store : StoreFacts) (heading : HeadingView) (chain : List ℕ) (entries : List Entry) (n : ℕ) : Type 0 where
  pub root_is : slice_get (chain ++ n ∷ []) 0 ≡ Some heading.root
  pub some_page : 1 ≤ n
  pub small : n < 2 ^ 32
  pub full : IsHonest store → AreFull heading.dims store.pages chain entries n
  pub each : AllByRecursion (IsEntry (last_address heading.dims)) entries
  pub begun : AreBegun entries
  pub more : length entries < heading.regions

-- a page of the directory tells what it must where so many regions are left: 170 of them and the next page, or all and none
abbrev pub HasPart : ℕ → Listing → Type 0
HasPart left listing = (length listing.entries ≡ min left MAX_ENTRIES) × ((listing.next ≡ 0) ↔ (left ≤ MAX_ENTRIES))

-- a page of the directory doesn't fit where so many regions are left after these entries
abbrev pub IsMisfit : ℕ → List Entry → Listing → PageFault → Type 0
IsMisfit left before listing BadCount = ¬ (HasPart left listing)
IsMisfit left before listing BadOrder = HasPart left listing × (¬ (AreBegun (before ++ listing.entries)))
IsMisfit left before listing _ = ⊥

-- why this page of the directory is refused after these entries: its reader refuses it, or else it doesn't fit
abbrev pub IsPartFault : HeadingView → List Entry → List ℕ → PageFault → Type 0
IsPartFault heading before page fault =
    IsDirectoryFault heading.dims page fault
    ⊎ ((listing : Listing) × IsListing heading.dims listing × (page ≡ directory_page listing) × IsMisfit (heading.regions - length before) before listing fault)

-- the page of this number is asked for: the directory begins or goes on there
abbrev pub IsAskedFor : HeadingView → StoreFacts → ℕ → Type 0
IsAskedFor heading store n = (chain : List ℕ) × (entries : List Entry) × IsReadUpTo store heading chain entries n

-- a page of the directory fits where that begins or goes on, and one of its entries names this page as a region's
pub record IsNamed (heading : HeadingView) (store : StoreFacts) (n : ℕ) : Type 0 where
  pub chain : List ℕ
  pub before : List Entry
  pub number : ℕ
  pub asked : IsReadUpTo store heading chain before number
  pub part : Listing
  pub range : IsListing heading.dims part
  pub page : IsPage store number (directory_page part)
  pub fits : HasPart (heading.regions - length before) part
  pub begun : AreBegun (before ++ part.entries)
  pub index : ℕ
  pub first : Key
  pub names : slice_get part.entries index ≡ Some (record { first = first; page = n })

-- each of these entries names a page below this number
abbrev pub AreBelow : ℕ → List Entry → Type 0
AreBelow count entries = AllByRecursion (λ entry. entry.page < count) entries

-- this page is refused where the directory begins or goes on
abbrev pub IsRefused : HeadingView → StoreFacts → ℕ → List ℕ → PageFault → Type 0
IsRefused heading store n page fault = (chain : List ℕ) × (entries : List Entry) × IsReadUpTo store heading chain entries n × IsPartFault heading entries page fault

-- the page at a place is read so, with this result, where so many regions are left: it fits there, and the store has each region's page
pub record TellsPart {E : Type 0} (dims : ℕ) (from : StoreFacts) (left next : ℕ) (result : Result Listing E) : Type 0 where
  pub listing : IfOk result (IsListing dims)
  pub page : IfOk result (λ part. IsPage from next (directory_page part))
  pub part : IfOk result (HasPart left)
  pub below : IfOk result (λ part. AreBelow (page_count from) part.entries)
