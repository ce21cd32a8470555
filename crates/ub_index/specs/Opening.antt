-- Opening an index that stands on a store, and making one of a single region.
use Rattle.std.specs.Prelude.{◌≡◌, ◌≤◌, ◌<◌, ℕ, IsTrue, List, [], ◌∷◌, None, Result, IfErr, IfOk, OnOk}
use Rattle.ub_index.specs.Common.{Fits, Holds, index_page, IndexFault, IsHonest, NamesFitting, NoneMoreBut, page_count, PagerView, SameTrace, Store}
use Rattle.ub_index.specs.Common.{StoreFacts, StoreFault, top, WritesAt}
use Rattle.ub_index.specs.Bringing.{IsBringFault}
use Rattle.ub_index.specs.Descending.{IsForgotten}
use Rattle.ub_index.specs.Held.{KeepsChecked}
use Rattle.ub_index.specs.View.{IsReachedOnce, pages_of_index, IndexView, IsIndexOn, entries_in, index_view}
use Rattle.ub_index.specs.Searching.{store_after}
use Rattle.ub_store.specs.declared.fault.StoreFault.TheVariants as store

-- the store has the page of the root, and it fits as the page of one
abbrev pub IsRooted : IndexView → StoreFacts → Type 0
IsRooted index store = NamesFitting index.last store.pages index.levels (top index.root) None

-- the pager holds a page of the root's number that fits so
pub record HoldsRoot (index : IndexView) (pager : PagerView) : Type 0 where
  pub page : List ℕ
  pub held : Holds pager index.root page
  pub fits : Fits index.last page index.levels (top index.root) None

-- why an index isn't opened: as the page of its root isn't brought, or isn't taken
abbrev pub IsOpenFault : IndexView → StoreFacts → IndexFault → Type 0
IsOpenFault index old = IsBringFault index.last old index.levels (top index.root) None

-- memory was refused, or the store failed: the same call may succeed later
abbrev pub IsPassing : IndexFault → Type 0
IsPassing (Store store.Memory) = Unit {0}
IsPassing (Store store.Device) = Unit {0}
IsPassing _ = ⊥

-- the index was to be opened, with this result: the pager holds no page more but the root's; the store is as it was, with one failed read more where the
-- result is the device's fault; and each refusal has its reason
pub record Opens {A : Type 0} (index : IndexView) (old new : PagerView) (result : Result A IndexFault) : Type 0 where
  pub same : new ≡ record old { store = store_after result old.store; cached = new.cached }
  pub checked : KeepsChecked index.last old new
  pub cached : NoneMoreBut index.root old.cached new.cached
  pub faults : IfErr result (IsOpenFault index old.store)

-- an index was to be opened, and this was answered: over an honest store that has its root it is refused only for want of memory or a failed read
pub record OpensIndex (view : IndexView) (old new : PagerView) (result : Result IndexView IndexFault) : Type 0 where
  pub index : IfOk result (λ index. index ≡ view)
  pub held : IfOk result (λ index. HoldsRoot index new)
  pub rooted : IsHonest old.store → IfOk result (λ index. IsRooted index old.store)
  pub exact : IsHonest old.store → IsRooted view old.store → IfErr result IsPassing
  pub forgotten : IfErr result (IsForgotten new)
  pub effect : Opens view old new result

-- the page of a root that names one region, on this page
abbrev pub root_page : ℕ → List ℕ
root_page page = index_page (record { level = 1; entries = top page ∷ [] })

-- why no root is put: the store failed, which it then can; or it has no page of that number
abbrev pub IsRootFault : ℕ → StoreFacts → StoreFault → Type 0
IsRootFault root old store.Device = IsTrue old.can_fail
IsRootFault root old store.NoPage = page_count old ≤ root
IsRootFault root old _ = ⊥

-- on the store stands an index of one region, on this page, and the root is its only page
pub record IsAlone (index : IndexView) (page : ℕ) (store : StoreFacts) : Type 0 where
  pub is : IsIndexOn index store
  pub reached : IsReachedOnce index store
  pub entries_are : entries_in index store ≡ top page ∷ []
  pub pages_are : pages_of_index index store ≡ index.root ∷ []

-- an index of the region on page `page`, with its root on page `root`, was to be made, and this was answered: done, it stands on an honest store
pub record CreatesIndex (root page last : ℕ) (old new : PagerView) (result : Result IndexView StoreFault) : Type 0 where
  pub index : IfOk result (λ index. index ≡ index_view root 1 last)
  pub stands : IsHonest old.store → 1 ≤ root → 1 ≤ page → IfOk result (λ index. IsAlone index page new.store)
  pub trace : SameTrace old new
  pub there : OnOk result (root < page_count old.store)
  pub checked : 1 ≤ page → KeepsChecked last old new
  pub refused : IfErr result (IsRootFault root old.store)
  pub effect : WritesAt root (root_page page) old.store new.store result
