-- The root of an index that is opened.
use Rattle.std.specs.Prelude.{◌≡◌, ◌≤◌, ℕ, IsTrue, List, None, Result, IfErr, IfOk}
use Rattle.ub_index.specs.Fitting.{IsUnfit}
use Rattle.ub_index.specs.Held.{KeepsChecked}
use Rattle.ub_index.specs.Index.{NamesFitting, top}
use Rattle.ub_index.specs.View.{IndexView, index_view}
use Rattle.ub_store.specs.Facts.{StoreFacts, IsHonest, IsPage, page_count}
use Rattle.ub_store.specs.View.{PagerView}
use Rattle.ub_store.specs.declared.fault.StoreFault.TheVariants as store
use Rattle.ub_upgrade.specs.Building.{IsPassing}
use Rattle.ub_laying.specs.Effects.{written}
use Rattle.ub_upgrade.specs.Effects.{CountsNew}
use Rattle.ub_laying.specs.declared.levels.Root.{Root}
use Rattle.ub_upgrade.specs.declared.fault.UpgradeFault.{UpgradeFault}
use Rattle.ub_upgrade.specs.declared.fault.UpgradeFault.TheVariants.{Page, New}

-- why the root of an index isn't opened: memory was refused; the store failed, which it then can; it has no such page; or that is refused
abbrev pub IsRootFault : ℕ → Root → StoreFacts → UpgradeFault → Type 0
IsRootFault last root new (New store.Memory) = Unit {0}
IsRootFault last root new (New store.Device) = IsTrue new.can_fail
IsRootFault last root new (New store.NoPage) = page_count new ≤ root.page
IsRootFault last root new (Page n fault) =
    (n ≡ root.page) × (page : List ℕ) × IsPage new n page × IsUnfit last page root.level (top root.page) None fault
IsRootFault last root new _ = ⊥

-- the index of a root is opened so, with this result, in a space that ends with this address
pub record OpensRoot (last : ℕ) (root : Root) (old new : PagerView) (result : Result IndexView UpgradeFault) : Type 0 where
  pub index : IfOk result (λ index. index ≡ index_view root.page root.level last)
  pub exact : IsHonest old.store → NamesFitting last old.store.pages root.level (top root.page) None → IfErr result IsPassing
  pub checked : KeepsChecked last old new
  pub pages : new.store.pages ≡ old.store.pages
  pub same : new ≡ record old { store = written old.store new.store; cached = new.cached }
  pub counts : CountsNew result old.store new.store
  pub refused : IfErr result (IsRootFault last root old.store)
