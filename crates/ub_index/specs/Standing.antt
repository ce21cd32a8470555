-- What an index is to those who keep regions on other pages of its store.
use Rattle.std.specs.Prelude.{◌≡◌, ◌≤◌, ◌<◌, ◌++◌, ◌∷◌, ℕ, nat_eq, List, Some, map, length, slice_get, ◌≢◌, ◌+◌, IsTrue}
use Rattle.ub_index.specs.Common.{AllByRecursion, Entry, IsDistinct, IsIndexPage, page_count, StoreFacts, StoreFault}
use Rattle.ub_index.specs.View.{IsReachedOnce, pages_of_index, IndexView, IsIndexOn, entries_in}
use Rattle.ub_store.specs.declared.fault.StoreFault.TheVariants as store

-- the pages of these numbers are as they were
abbrev pub PagesStay : List (List ℕ) → List (List ℕ) → List ℕ → Type 0
PagesStay old new numbers = AllByRecursion (λ n. slice_get new n ≡ slice_get old n) numbers

abbrev pub IsOutside : ℕ → List ℕ → Type 0
IsOutside n numbers = AllByRecursion (λ m. n ≢ m) numbers

-- the pages that there were are as they were, but for those of these numbers; others may stand after them
abbrev pub OldStayOutside : List ℕ → List (List ℕ) → List (List ℕ) → Type 0
OldStayOutside numbers old new = (m : ℕ) → m < length old → IsOutside m numbers → slice_get new m ≡ slice_get old m

-- none of those that stand after them is a page of an index
abbrev pub AddsNoIndexPage : ℕ → List (List ℕ) → List (List ℕ) → Type 0
AddsNoIndexPage last old new = (m : ℕ) (page : List ℕ) → length old ≤ m → slice_get new m ≡ Some page → ¬ (IsIndexPage last page)

-- why a store doesn't get so many pages more: memory was refused; the store failed, which it then can; or it would have too many
abbrev pub IsGrowFault : ℕ → StoreFacts → StoreFault → Type 0
IsGrowFault by old store.Memory = Unit {0}
IsGrowFault by old store.Device = IsTrue old.can_fail
IsGrowFault by old store.BadSize = 4294967295 < page_count old + by
IsGrowFault by old store.NoPage = ⊥

-- the index stands on the new store as on the old one: with the same entries, on the same pages
pub record StandsAsOn (index : IndexView) (old new : StoreFacts) : Type 0 where
  pub is : IsIndexOn index new
  pub reached : IsReachedOnce index new
  pub entries_are : entries_in index new ≡ entries_in index old
  pub pages_are : pages_of_index index new ≡ pages_of_index index old

abbrev pub region_pages : List Entry → List ℕ
region_pages entries = map (λ entry. entry.page) entries

-- no page serves twice: the first, those of the index, and one for each region
abbrev pub AreOwnPages : IndexView → StoreFacts → Type 0
AreOwnPages index store = IsDistinct nat_eq ((0 ∷ pages_of_index index store) ++ region_pages (entries_in index store))

-- the store has each region's page
abbrev pub AreRegionsThere : IndexView → StoreFacts → Type 0
AreRegionsThere index store = AllByRecursion (λ n. n < page_count store) (region_pages (entries_in index store))
