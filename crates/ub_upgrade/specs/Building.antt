-- What the two calls do: pages are copied, and an index is built of an old directory.
use Rattle.std.specs.Prelude.{◌≡◌, ◌≤◌, ◌<◌, ◌+◌, ◌⊎◌, ℕ, IsTrue, List, Result, IfErr, slice_get}
use Rattle.ub_region.specs.declared.entry.Entry.{Entry}
use Rattle.ub_store.specs.Facts.{StoreFacts, IsPage, page_count}
use Rattle.ub_store.specs.View.{PagerView}
use Rattle.ub_store.specs.declared.fault.StoreFault.TheVariants as store
use Rattle.ub_store.specs.declared.store.TheConstants.{MAX_PAGES}
use Rattle.ub_zaddr.specs.Address.{last_address}
use Rattle.ub_upgrade.specs.Effects.{BringsOver}
use Rattle.ub_laying.specs.Levels.{Cut, IsIndexOf, index_pages}
use Rattle.ub_upgrade.specs.Reading.{HeadingView, AreBelow, IsAskedFor, IsDirectory, IsNamed, IsRefused}
use Rattle.ub_laying.specs.declared.levels.Root.{Root}
use Rattle.ub_laying.specs.declared.levels.Level.{Level}
use Rattle.ub_upgrade.specs.declared.fault.UpgradeFault.{UpgradeFault}
use Rattle.ub_upgrade.specs.declared.fault.UpgradeFault.TheVariants.{Page, Old, New}

-- each page but the first is the one of its number
abbrev pub AreCopied : List (List ℕ) → List (List ℕ) → Type 0
AreCopied old new = (n : ℕ) → 1 ≤ n → slice_get new n ≡ slice_get old n

-- why pages aren't copied: memory was refused; or one of the two stores failed, which it then can
abbrev pub IsCopyFault : StoreFacts → StoreFacts → UpgradeFault → Type 0
IsCopyFault old new (Old store.Memory) = Unit {0}
IsCopyFault old new (Old store.Device) = IsTrue old.can_fail
IsCopyFault old new (New store.Memory) = Unit {0}
IsCopyFault old new (New store.Device) = IsTrue new.can_fail
IsCopyFault old new _ = ⊥

-- memory was refused, one of the stores failed, or the new one would have too many pages
abbrev pub IsPassing : UpgradeFault → Type 0
IsPassing (Old store.Memory) = Unit {0}
IsPassing (Old store.Device) = Unit {0}
IsPassing (New store.Memory) = Unit {0}
IsPassing (New store.Device) = Unit {0}
IsPassing (New store.BadSize) = Unit {0}
IsPassing _ = ⊥

-- why no index is built: memory was refused; one of the two stores failed, which it then can; the old one has no page of a number
-- that the directory names, as its page or as a region's; a page of the directory is refused; or the new one would have too many pages
abbrev pub IsBuildFault : HeadingView → StoreFacts → StoreFacts → UpgradeFault → Type 0
IsBuildFault heading old new (Old store.Memory) = Unit {0}
IsBuildFault heading old new (Old store.Device) = IsTrue old.can_fail
IsBuildFault heading old new (Old store.NoPage) = (n : ℕ) × (page_count old ≤ n) × (IsAskedFor heading old n ⊎ IsNamed heading old n)
IsBuildFault heading old new (Old store.BadSize) = ⊥
IsBuildFault heading old new (New store.Memory) = Unit {0}
IsBuildFault heading old new (New store.Device) = IsTrue new.can_fail
IsBuildFault heading old new (New store.NoPage) = ⊥
IsBuildFault heading old new (New store.BadSize) = MAX_PAGES < page_count new + index_pages heading.regions
IsBuildFault heading old new (Page n fault) = (page : List ℕ) × IsPage old n page × IsRefused heading old n page fault

-- a page that is refused is one of so many
abbrev pub IsThere : ℕ → UpgradeFault → Type 0
IsThere count (Page n fault) = n < count
IsThere count _ = Unit {0}

-- the new store has the index of these entries behind the pages that it had
abbrev pub HasBuilt : HeadingView → StoreFacts → StoreFacts → Root → List Entry → Type 0
HasBuilt heading old new root entries = IsIndexOf (last_address heading.dims) new.pages (page_count old) (page_count new) root entries

-- the old pages hold a directory, each of whose entries names a page that there is; and the new store has the index of its entries
abbrev pub IsBuilt : HeadingView → StoreFacts → StoreFacts → StoreFacts → Root → Type 0
IsBuilt heading from old new root =
    (chain : List ℕ) × (entries : List Entry) × IsDirectory from.pages heading chain entries × AreBelow (page_count from) entries
    × HasBuilt heading old new root entries

-- the old pages hold a directory, each of whose entries names a page that there is; and this level tells its entries
abbrev pub AreLeaves : HeadingView → StoreFacts → List (List ℕ) → Level → Type 0
AreLeaves heading from pages low =
    (chain : List ℕ) × (entries : List Entry) × IsDirectory from.pages heading chain entries × AreBelow (page_count from) entries
    × Cut pages 1 low.first low.count entries

-- a call with this result that builds of a directory: why it is refused, of which pages that is told, and what it leaves
pub record BuildsOver {A : Type 0} (heading : HeadingView) (from from_then : StoreFacts) (old new : PagerView) (result : Result A UpgradeFault) : Type 0 where
  pub refused : IfErr result (IsBuildFault heading from old.store)
  pub there : IfErr result (IsThere (page_count from))
  pub effect : BringsOver from from_then old new result
