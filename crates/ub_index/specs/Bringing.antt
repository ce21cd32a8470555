-- Bringing the page that an entry names, where it fits that entry.
use Rattle.std.specs.Prelude.{◌≡◌, ◌≤◌, ℕ, IsTrue, List, Option, Result, IfOk, IfErr, OnOk}
use Rattle.ub_index.specs.Common.{Entry, Fits, FitsAtEnds, Full, head_on, Holds, IndexFault, IsCached, IsHonest, IsPage, IsUnfit, Key, NamesFitting}
use Rattle.ub_index.specs.Common.{NoneMoreBut, Page, page_count, PagerView, Store, StoreFacts}
use Rattle.ub_index.specs.Descending.{IsForgotten, StepsDown}
use Rattle.ub_index.specs.Held.{AreChecked, KeepsChecked, NoneMoreButIndex}
use Rattle.ub_index.specs.Searching.{store_after}
use Rattle.ub_page.specs.declared.index.Head.{Head}
use Rattle.ub_store.specs.declared.fault.StoreFault.TheVariants as store

-- why the page that an entry of this level names isn't brought, or isn't taken
abbrev pub IsBringFault : ℕ → StoreFacts → ℕ → Entry → Option Key → IndexFault → Type 0
IsBringFault last old level entry end (Store store.Memory) = Unit {0}
IsBringFault last old level entry end (Store store.Device) = IsTrue old.can_fail
IsBringFault last old level entry end (Store store.NoPage) = page_count old ≤ entry.page
IsBringFault last old level entry end (Store store.BadSize) = ⊥
IsBringFault last old level entry end Full = ⊥
IsBringFault last old level entry end (Page n fault) =
    (n ≡ entry.page) × (page : List ℕ) × IsPage old n page × IsUnfit last page level entry end fault

-- the page that an entry names is brought with this result, and looked at: in full where it was read, and at its ends where it was held
pub record BringsNext (last level : ℕ) (entry : Entry) (end : Option Key) (old new : PagerView) (result : Result Head IndexFault) : Type 0 where
  pub cached : OnOk result (IsCached new entry.page)
  pub ends : IfOk result (λ head. (page : List ℕ) → Holds new entry.page page → (head ≡ head_on page) × FitsAtEnds page level entry end)
  pub named : IsHonest old.store → AreChecked last old → OnOk result (NamesFitting last old.store.pages level entry end)
  pub forgotten : IfErr result (IsForgotten new)
  pub steps : StepsDown last level entry end old new result

-- the same, with the page looked at in full also where it was held: it fits over any store
pub record BringsFitting (last level : ℕ) (entry : Entry) (end : Option Key) (old new : PagerView) (result : Result Head IndexFault) : Type 0 where
  pub same : new ≡ record old { store = store_after result old.store; cached = new.cached }
  pub cached : OnOk result (IsCached new entry.page)
  pub fits : IfOk result (λ head. (page : List ℕ) → Holds new entry.page page → (head ≡ head_on page) × Fits last page level entry end)
  pub named : IsHonest old.store → OnOk result (NamesFitting last old.store.pages level entry end)
  pub others : NoneMoreBut entry.page old.cached new.cached
  pub checked : KeepsChecked last old new
  pub more : NoneMoreButIndex last old.cached new.cached
  pub forgotten : IfErr result (IsForgotten new)
  pub faults : IfErr result (IsBringFault last old.store level entry end)
