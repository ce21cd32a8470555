-- What is read of the first page of an old store, and what of the others is brought over.
use Rattle.std.specs.Prelude.{◌≡◌, ◌≤◌, ◌<◌, ◌+◌, ◌⊎◌, ℕ, false, IsTrue, List, Result, IfErr, IfOk, MatchResult, OnOk, length, slice_get}
use Rattle.ub_page.specs.declared.header.TheConstants.{MAX_LEVEL}
use Rattle.ub_page.specs.Header.{IsOldHeader, IsOldHeaderFault, header_page_of}
use Rattle.ub_region.specs.declared.entry.Entry.{Entry}
use Rattle.ub_page.specs.declared.header.Header.{Header}
use Rattle.ub_page.specs.declared.header.OldHeader.{OldHeader}
use Rattle.ub_store.specs.Facts.{StoreFacts, IsHonest, IsPage, page_count}
use Rattle.ub_store.specs.View.{PagerView}
use Rattle.ub_store.specs.declared.fault.StoreFault.TheVariants as store
use Rattle.ub_store.specs.declared.store.TheConstants.{MAX_PAGES}
use Rattle.ub_zaddr.specs.Address.{last_address}
use Rattle.ub_upgrade.specs.Building.{AreCopied, IsPassing}
use Rattle.ub_upgrade.specs.Effects.{BringsOver}
use Rattle.ub_laying.specs.Levels.{IsIndexOf, index_pages}
use Rattle.ub_upgrade.specs.Reading.{HeadingView, AreBelow, IsAskedFor, IsDirectory, IsNamed, IsRefused, heading_of}
use Rattle.ub_laying.specs.declared.levels.Root.{Root}
use Rattle.ub_upgrade.specs.declared.fault.UpgradeFault.{UpgradeFault}
use Rattle.ub_upgrade.specs.declared.fault.UpgradeFault.TheVariants.{Page, Old, New}

-- the first page of the store is this header of an old version, and it is clean
pub record HasOldHeader (from : StoreFacts) (head : OldHeader) : Type 0 where
  pub spelled : IsPage from 0 (header_page_of head.version head.header)
  pub is : IsOldHeader head
  pub clean : head.header.unclean ≡ false

-- why it isn't read: memory was refused; the store failed, which it then can; it has no page; or its first page is refused
abbrev pub IsHeadFault : StoreFacts → UpgradeFault → Type 0
IsHeadFault from (Old store.Memory) = Unit {0}
IsHeadFault from (Old store.Device) = IsTrue from.can_fail
IsHeadFault from (Old store.NoPage) = page_count from ≡ 0
IsHeadFault from (Page n fault) = (n ≡ 0) × (page : List ℕ) × IsPage from 0 page × IsOldHeaderFault page fault
IsHeadFault from _ = ⊥

-- what a header of version 1 tells of its directory
abbrev pub directory_of : Header → HeadingView
directory_of header = heading_of header.schema.dims header.root header.regions

-- the new pages hold an index of these entries, behind as many pages as the old store has
abbrev pub HasIndexOf : OldHeader → StoreFacts → List (List ℕ) → Root → List Entry → Type 0
HasIndexOf head from new root entries = IsIndexOf (last_address head.header.schema.dims) new (page_count from) (length new) root entries

-- the pages that were brought over: each but the first is the one of its number; the root is where a header of version 2 tells it, and in
-- version 1 that of an index of the entries of the directory, each of which names a page that there is
pub record IsBrought (head : OldHeader) (from : StoreFacts) (new : List (List ℕ)) (root : Root) : Type 0 where
  pub copied : (n : ℕ) → 1 ≤ n → n < page_count from → slice_get new n ≡ slice_get from.pages n
  pub index : head.version ≡ 2 → AreCopied from.pages new × (length new ≡ page_count from) × (root ≡ record { page = head.header.root; level = head.header.levels })
  pub directory : head.version ≡ 1 → (chain : List ℕ) × (entries : List Entry) × IsDirectory from.pages (directory_of head.header) chain entries
      × AreBelow (page_count from) entries × HasIndexOf head from new root entries

-- why pages aren't brought over: memory was refused; one of the two stores failed, which it then can; and in version 1 the old one has
-- no page of a number that the directory names, as its page or as a region's, a page of the directory is refused, or the new one would
-- have too many pages
abbrev pub IsBringFault : OldHeader → StoreFacts → StoreFacts → UpgradeFault → Type 0
IsBringFault head from new (Old store.Memory) = Unit {0}
IsBringFault head from new (Old store.Device) = IsTrue from.can_fail
IsBringFault head from new (Old store.NoPage) =
    (head.version ≡ 1) × (n : ℕ) × (page_count from ≤ n) × (IsAskedFor (directory_of head.header) from n ⊎ IsNamed (directory_of head.header) from n)
IsBringFault head from new (Old store.BadSize) = ⊥
IsBringFault head from new (New store.Memory) = Unit {0}
IsBringFault head from new (New store.Device) = IsTrue new.can_fail
IsBringFault head from new (New store.NoPage) = ⊥
IsBringFault head from new (New store.BadSize) = (head.version ≡ 1) × (MAX_PAGES < page_count from + index_pages head.header.regions)
IsBringFault head from new (Page n fault) =
    (head.version ≡ 1) × (page : List ℕ) × IsPage from n page × IsRefused (directory_of head.header) from n page fault

-- pages are brought over so, with this result, and a root
pub record BringsPages (head : OldHeader) (from from_then : StoreFacts) (old new : PagerView) (result : Result Root UpgradeFault) : Type 0 where
  pub brought : IsHonest from → IsHonest old.store → IfOk result (IsBrought head from new.store.pages)
  pub exact : (chain : List ℕ) (entries : List Entry) → IsHonest from → IsHonest old.store → head.version ≡ 1
      → IsDirectory from.pages (directory_of head.header) chain entries → AreBelow (page_count from) entries
      → MatchResult result (λ root. HasIndexOf head from new.store.pages root entries) IsPassing
  pub plain : head.version ≡ 2 → IfErr result IsPassing
  pub root : IfOk result (λ root. (1 ≤ root.page) × (1 ≤ root.level) × (root.level ≤ MAX_LEVEL))
  pub count : OnOk result (page_count from ≤ page_count new.store)
  pub size : head.version ≡ 1 → OnOk result (page_count new.store ≡ page_count from + index_pages head.header.regions)
  pub refused : IfErr result (IsBringFault head from old.store)
  pub effect : BringsOver from from_then old new result
