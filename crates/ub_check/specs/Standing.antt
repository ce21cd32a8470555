-- Which region stands where one is due, and why a page is refused there.
use Rattle.std.specs.Prelude.{◌≡◌, ◌<◌, ◌≤◌, ◌⊎◌, ℕ, IsTrue, List, Option, IfSome, Result, MatchResult, IfErr, OnOk}
use Rattle.std.specs.List.{AllByRecursion}
use Rattle.ub_index.specs.Descending.{IsForgotten}
use Rattle.ub_index.specs.Held.{KeepsChecked}
use Rattle.ub_index.specs.Opening.{IsPassing}
use Rattle.ub_index.specs.Searching.{store_after}
use Rattle.ub_index.specs.declared.fault.IndexFault.{IndexFault}
use Rattle.ub_index.specs.declared.fault.IndexFault.TheVariants.{Full, Page, Store}
use Rattle.ub_region.specs.RegionPage.{IsRegionFault, RegionView, region_page}
use Rattle.ub_region.specs.declared.region.Region.{Region}
use Rattle.ub_store.specs.Cache.{NoneMoreBut}
use Rattle.ub_store.specs.Facts.{StoreFacts, IsHonest, IsPage, page_count}
use Rattle.ub_store.specs.View.{Holds, PagerView}
use Rattle.ub_store.specs.declared.fault.StoreFault.TheVariants as store
use Rattle.ub_table.specs.Keys.{IsBefore}
use Rattle.ub_table.specs.Region.{RegionRows, IsRegion, keys_of}
use Rattle.ub_table.specs.declared.fault.PageFault.{PageFault}
use Rattle.ub_table.specs.declared.fault.PageFault.TheVariants.{OutOfRegion}
use Rattle.ub_table.specs.declared.row.Key.{Key}
use Rattle.ub_table.specs.declared.schema.Schema.{Schema}

-- the region begins with this first key, and its rows are before the next region's, where there is one
abbrev pub IsHeldBy : ℕ → Key → Option Key → RegionRows → Type 0
IsHeldBy dims first next region =
    (region.first ≡ first)
    × IfSome next (λ end. AllByRecursion (λ key. IsBefore key end) (keys_of dims region.rows))

-- why a page is refused where a region is due that begins with this key, and the next one, if there is one, with that: its
-- reader refuses it, or it tells of a region that begins with another key or has rows that are not before the next one
abbrev pub IsRegionRefused : Schema → Key → Option Key → List ℕ → PageFault → Type 0
IsRegionRefused schema first next page fault =
    IsRegionFault schema page fault
    ⊎ ((fault ≡ OutOfRegion) × (region : RegionRows) × IsRegion schema region × (page ≡ region_page schema region)
    × (¬ (IsHeldBy schema.dims first next region)))

-- the region that is taken in is the one that this one's page spells; it begins as this one does, and stands before the next one
abbrev pub IsTakenIn : Schema → StoreFacts → Region → RegionRows → Type 0
IsTakenIn schema store span region =
    IsRegion schema region × IsHeldBy schema.dims span.first span.next region × IsPage store span.page (region_page schema region)

-- why a region isn't read: memory was refused; the store failed, which it then can; it has no page of that number; or the page that it
-- has there is refused where the region is due
abbrev pub IsSpanFault : Schema → StoreFacts → Region → IndexFault → Type 0
IsSpanFault schema old span (Store store.Memory) = Unit {0}
IsSpanFault schema old span (Store store.Device) = IsTrue old.can_fail
IsSpanFault schema old span (Store store.NoPage) = page_count old ≤ span.page
IsSpanFault schema old span (Store store.BadSize) = ⊥
IsSpanFault schema old span Full = ⊥
IsSpanFault schema old span (Page n fault) =
    (n ≡ span.page) × (page : List ℕ) × IsPage old n page × IsRegionRefused schema span.first span.next page fault

-- the page of a region is read with this result, and what it spells is taken in where that stands where the region is due; over an
-- honest store what stands there so is taken in, memory and the device aside. The pager then holds that page, and no other one more;
-- it is held no more where it is refused. With the device's fault the store has one failed read more, and else nothing has changed
-- but the trace
pub record ReadsAt {A : Type 0} (schema : Schema) (span : Region) (old new : PagerView) (page : RegionView) (result : Result A IndexFault) : Type 0 where
  pub same : new ≡ record old { store = store_after result old.store; trace = new.trace; cached = new.cached }
  pub dims : OnOk result (page.dims ≡ schema.dims)
  pub taken : OnOk result (IsTakenIn schema old.store span page.region)
  pub there : OnOk result (span.page < page_count old.store)
  pub exact : (r : RegionRows) → IsHonest old.store → IsTakenIn schema old.store span r → MatchResult result (λ _. page.region ≡ r) IsPassing
  pub held : OnOk result (Holds new span.page (region_page schema page.region))
  pub others : NoneMoreBut span.page old.cached new.cached
  pub checked : (last : ℕ) → KeepsChecked last old new
  pub forgotten : IfErr result (IsForgotten new)
  pub faults : IfErr result (IsSpanFault schema old.store span)
