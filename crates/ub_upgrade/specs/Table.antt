-- A table of an older format, over a new store: what is made of its pages, and why it isn't.
use Rattle.std.specs.Prelude.{◌≡◌, ◌≤◌, ◌+◌, ◌⊎◌, ℕ, IsTrue, List, None, Some, Result, length}
use Rattle.ub_index.specs.Fitting.{IsNotTaken}
use Rattle.ub_index.specs.Held.{AreChecked}
use Rattle.ub_index.specs.Index.{NamesFitting, top}
use Rattle.ub_index.specs.View.{IndexView}
use Rattle.ub_page.specs.declared.header.OldHeader.{OldHeader}
use Rattle.ub_region.specs.declared.entry.Entry.{Entry}
use Rattle.ub_store.specs.Cache.{page_at}
use Rattle.ub_store.specs.Facts.{StoreFacts, IsHonest, page_count}
use Rattle.ub_store.specs.View.{PagerView}
use Rattle.ub_store.specs.declared.fault.StoreFault.TheVariants as store
use Rattle.ub_upgrade.specs.Bringing.{HasIndexOf, HasOldHeader, IsBringFault, IsBrought, IsHeadFault, directory_of}
use Rattle.ub_laying.specs.Effects.{written}
use Rattle.ub_upgrade.specs.Effects.{CountsNew, counted_old}
use Rattle.ub_laying.specs.Levels.{index_pages}
use Rattle.ub_upgrade.specs.Reading.{AreBelow, IsDirectory}
use Rattle.ub_laying.specs.declared.levels.Root.{Root}
use Rattle.ub_upgrade.specs.declared.fault.UpgradeFault.{UpgradeFault}
use Rattle.ub_upgrade.specs.declared.fault.UpgradeFault.TheVariants.{Page, New}
use Rattle.ub_writing.specs.Marks.{HasMark}
use Rattle.ub_zaddr.specs.Address.{last_address}

-- the root of an index
abbrev pub root_in : IndexView → Root
root_in index = record { page = index.root; level = index.levels }

-- a pager holds no page
abbrev pub HoldsNone : PagerView → Type 0
HoldsNone pager = (n : ℕ) → page_at pager.cached n ≡ None

-- what was made of the pages of an old store: this header was read there; the first page of the new one marks the table as changed, the
-- others were brought over, and of the index that stands there now the root was opened
pub record IsMade (from : StoreFacts) (old new : PagerView) (head : OldHeader) (index : IndexView) : Type 0 where
  pub header : HasOldHeader from head
  pub last_is : index.last ≡ last_address head.header.schema.dims
  pub root : 1 ≤ index.root
  pub level : 1 ≤ index.levels
  pub count : page_count from ≤ page_count new.store
  pub size : head.version ≡ 1 → page_count new.store ≡ page_count from + index_pages head.header.regions
  pub marked : IsHonest old.store → HasMark head.header.schema new.store.pages
  pub brought : IsHonest from → IsHonest old.store → IsBrought head from new.store.pages (root_in index)
  pub checked : HoldsNone old → AreChecked index.last new

-- of this header the pages can be brought over: in version 1 they hold a directory of these entries, each of which names a page that
-- there is; in version 2 the root of an index stands where the header tells it
abbrev pub CanBring : OldHeader → List (List ℕ) → List Entry → Type 0
CanBring head pages entries =
    ((head.version ≡ 1) × (chain : List ℕ) × IsDirectory pages (directory_of head.header) chain entries × AreBelow (length pages) entries)
    ⊎ ((head.version ≡ 2) × NamesFitting (last_address head.header.schema.dims) pages head.header.levels (top head.header.root) None)

-- then they were: this header was read, and in version 1 the new pages hold an index of these entries
abbrev pub IsMadeOf : OldHeader → StoreFacts → List (List ℕ) → List Entry → OldHeader → IndexView → Type 0
IsMadeOf head from new entries read index = (read ≡ head) × (head.version ≡ 1 → HasIndexOf head from new (root_in index) entries)

-- memory was refused for the new store, or that failed, which it then can
abbrev pub IsNewFault : StoreFacts → UpgradeFault → Type 0
IsNewFault new (New store.Memory) = Unit {0}
IsNewFault new (New store.Device) = IsTrue new.can_fail
IsNewFault new _ = ⊥

-- over honest stores the root of the index of version 2 isn't taken: it is refused, or it isn't there
abbrev pub IsRootRefused : OldHeader → StoreFacts → StoreFacts → UpgradeFault → Type 0
IsRootRefused head from new (Page n fault) = IsHonest from → IsHonest new → (head.version ≡ 2) × (n ≡ head.header.root)
    × IsNotTaken (last_address head.header.schema.dims) from.pages head.header.levels (top head.header.root) None (Some fault)
IsRootRefused head from new (New store.NoPage) = IsHonest from → IsHonest new → (head.version ≡ 2)
    × IsNotTaken (last_address head.header.schema.dims) from.pages head.header.levels (top head.header.root) None None
IsRootRefused head from new _ = ⊥

-- why a table isn't brought over: the header isn't read; memory was refused for the new store, or that failed; the other pages
-- aren't brought over; or the root of the index isn't taken
abbrev pub IsTableFault : StoreFacts → StoreFacts → UpgradeFault → Type 0
IsTableFault from new fault =
    IsHeadFault from fault ⊎ (IsNewFault new fault
    ⊎ ((head : OldHeader) × HasOldHeader from head × (IsBringFault head from new fault ⊎ IsRootRefused head from new fault)))

-- a call with this result that brings a table over from one store to that of a pager: of the first nothing changes but, at its
-- device's fault, the count of failed reads; of the second one the pages, and those that last, may be others; no page is noted
pub record BringsTable {A : Type 0} (from from_then : StoreFacts) (old new : PagerView) (result : Result A UpgradeFault) : Type 0 where
  pub read : from_then ≡ record from { failed_reads = counted_old result from.failed_reads }
  pub same : new ≡ record old { store = written old.store new.store; cached = new.cached }
  pub counts : CountsNew result old.store new.store
