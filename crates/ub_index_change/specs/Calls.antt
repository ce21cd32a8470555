-- What the calls that change an index promise, one record for each: what is done over an honest store, and on an index there; and over
-- any store why a call is refused, and what it leaves.
use Rattle.std.specs.Prelude.{◌≡◌, ◌+◌, [], ◌∷◌, ℕ, Some, Result, IfErr, IfOk, OnErr, OnOk}
use Rattle.ub_index.specs.Descending.{IsForgotten}
use Rattle.ub_index.specs.Held.{KeepsChecked}
use Rattle.ub_index.specs.Standing.{IsGrowFault}
use Rattle.ub_index.specs.View.{IsReachedOnce, IndexView, IsIndexOn, IsRegionAt, Leads, entries_in, entry_at}
use Rattle.ub_index.specs.declared.fault.IndexFault.{IndexFault}
use Rattle.ub_index_change.specs.Changed.{Replaces}
use Rattle.ub_index_change.specs.Changing.{AreIndexPages, AreOnce, Stand, so_far}
use Rattle.ub_index_change.specs.Filling.{KeepsFilled}
use Rattle.ub_index_change.specs.Lowering.{IsDropped, MakesLow, PreparesDrop}
use Rattle.ub_index_change.specs.Making.{IsPutFault, PutsSheets, changed}
use Rattle.ub_index_change.specs.Preparing.{ChangeView, IsPrepared, IsWithinRegion, MakesIndex, PreparesAll, TakesFew, TakesNeeded, added_at}
use Rattle.ub_region.specs.declared.region.Region.{Region}
use Rattle.ub_store.specs.Facts.{IsHonest, page_count}
use Rattle.ub_store.specs.View.{PagerView, SameTrace}
use Rattle.ub_store.specs.Writing.{Grows, put_store}
use Rattle.ub_store.specs.declared.fault.StoreFault.{StoreFault}
use Rattle.ub_table.specs.Keys.{IsBefore, origin}
use Rattle.ub_table.specs.declared.row.Key.{Key}

-- a change was to be prepared by which a region comes behind another one, with this first key, and this was answered
pub record PreparesAddition (index : IndexView) (region : Region) (first : Key) (old new : PagerView) (result : Result ChangeView IndexFault) : Type 0 where
  pub made : IsHonest old.store → IfOk result
      (IsPrepared index old.store region.first (Some (added_at first old.store)) (page_count old.store) (so_far [] (page_count old.store + 1)))
  pub few : IfOk result (TakesFew (page_count old.store) (page_count old.store + 1) (index.levels + 1))
  pub takes : IsHonest old.store → IfOk result (TakesNeeded index old.store region.first)
  pub pages : IsHonest old.store → Leads index old.store region.first region → IsWithinRegion index.last region.first region.next first
      → IfOk result (λ c. AreIndexPages index.last c.sheets)
  pub ready : (i : ℕ) → IsIndexOn index old.store → IsReachedOnce index old.store → IsRegionAt (entries_in index old.store) i region
      → IsWithinRegion index.last region.first region.next first → IfOk result (λ c. MakesIndex index old.store (page_count old.store + 1) c
      (Replaces (entry_at region) (entry_at region ∷ added_at first old.store ∷ []) (entries_in index old.store)))
  pub fills : (i : ℕ) → IsIndexOn index old.store → IsReachedOnce index old.store → IsRegionAt (entries_in index old.store) i region
      → IsWithinRegion index.last region.first region.next first → IfOk result (KeepsFilled index old.store)
  pub forgotten : IfErr result (IsForgotten new)
  pub effect : PreparesAll index region.first (Some (added_at first old.store)) (so_far [] (page_count old.store + 1)) old new result

-- the same of one by which a region goes, which isn't the first
pub record PreparesRemoval (index : IndexView) (region : Region) (old new : PagerView) (result : Result ChangeView IndexFault) : Type 0 where
  pub made : IsHonest old.store → IfOk result (IsDropped index old.store region.first)
  pub pages : IsHonest old.store → IfOk result (λ c. AreIndexPages index.last c.sheets)
  pub ready : (i : ℕ) → IsIndexOn index old.store → IsReachedOnce index old.store → IsRegionAt (entries_in index old.store) i region
      → IsBefore origin region.first → IfOk result
      (λ c. MakesIndex index old.store (page_count old.store) c (Replaces (entry_at region) [] (entries_in index old.store)))
  pub low : (i : ℕ) → IsIndexOn index old.store → IsReachedOnce index old.store → IsRegionAt (entries_in index old.store) i region
      → IsBefore origin region.first → IfOk result (λ c. (c.next ≡ c.start) × MakesLow index old.store c)
  pub next : IfOk result (λ c. c.next ≡ page_count old.store)
  pub forgotten : IfErr result (IsForgotten new)
  pub effect : PreparesDrop index region.first old new result

-- a store was to get so many pages more, and this was answered
pub record GrowsBy (by : ℕ) (old new : PagerView) (result : Result (Unit {0}) StoreFault) : Type 0 where
  pub trace : SameTrace old new
  pub cached : new.cached ≡ old.cached
  pub grown : OnOk result (page_count new.store ≡ page_count old.store + by)
  pub grows : Grows old.store new.store
  pub same : new.store ≡ put_store result old.store new.store
  pub refused : IfErr result (IsGrowFault by old.store)

-- a change was to be made of an index, and this was answered
pub record Commits (change : ChangeView) (index new_index : IndexView) (old new : PagerView) (result : Result (Unit {0}) StoreFault) : Type 0 where
  pub now : OnOk result (new_index ≡ changed index change)
  pub left : OnErr result (new_index ≡ index)
  pub trace : SameTrace old new
  pub stand : AreOnce change.sheets → IsHonest old.store → OnOk result (Stand new.store.pages change.sheets)
  pub kept : PutsSheets change.sheets old.store new.store
  pub checked : AreIndexPages index.last change.sheets → KeepsChecked index.last old new
  pub same : new.store ≡ put_store result old.store new.store
  pub refused : IfErr result (IsPutFault change.next change.sheets old.store)
