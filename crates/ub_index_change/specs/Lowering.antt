-- A root that names one page alone gives way to it.
use Rattle.std.specs.Prelude.{◌≡◌, ◌≤◌, ◌==◌, ◌⊎◌, if◌then◌else◌, ℕ, zero, suc, IsTrue, List, [], ◌∷◌, Option, Some, None, Result, length}
use Rattle.ub_index_change.specs.Changing.{IsNoGrowth, Stand, StayBut, so_far}
use Rattle.ub_index.specs.Fitting.{IsNotTaken}
use Rattle.ub_index.specs.Index.{entries_of, page_in, top}
use Rattle.ub_index_change.specs.Preparing.{ChangeView, IsChangeFault, IsPrepared}
use Rattle.ub_index.specs.View.{pages_of_index, IndexView}
use Rattle.ub_index.specs.Searching.{ReadsIndex}
use Rattle.ub_index.specs.declared.fault.IndexFault.{IndexFault}
use Rattle.ub_index.specs.declared.fault.IndexFault.TheVariants.{Full, Page, Store}
use Rattle.ub_index_change.specs.declared.sheet.Sheet.{Sheet}
use Rattle.ub_page.specs.Index.{node_on}
use Rattle.ub_region.specs.declared.entry.Entry.{Entry}
use Rattle.ub_store.specs.Facts.{StoreFacts, IsHonest, page_count}
use Rattle.ub_store.specs.View.{PagerView}
use Rattle.ub_store.specs.declared.fault.StoreFault.TheVariants as store
use Rattle.ub_table.specs.declared.fault.PageFault.{PageFault}
use Rattle.ub_table.specs.declared.row.Key.{Key}

-- the first page that is spelled under this number, if one is
abbrev pub spelled_page : List Sheet → ℕ → Option (List ℕ)
spelled_page [] n = None
spelled_page (sheet ∷ sheets) n = if sheet.number == n then Some sheet.page else spelled_page sheets n

-- a page that is spelled, or else this one
abbrev pub spelled_or : Option (List ℕ) → List ℕ → List ℕ
spelled_or None page = page
spelled_or (Some other) page = other

-- the page of this number once the sheets stand, and the entries that it tells
abbrev pub page_then : List Sheet → List (List ℕ) → ℕ → List ℕ
page_then sheets pages n = spelled_or (spelled_page sheets n) (page_in pages n)

abbrev pub entries_then : List Sheet → List (List ℕ) → ℕ → List Entry
entries_then sheets pages n = (node_on (page_then sheets pages n)).entries

-- this page, unless it is page 0, on which no index has a page
abbrev pub unless_first : ℕ → Option ℕ
unless_first zero = None
unless_first (suc n) = Some (suc n)

-- the page that these entries name, if there is one entry alone, and it doesn't name page 0
abbrev pub sole_page : List Entry → Option ℕ
sole_page (entry ∷ []) = unless_first entry.page
sole_page _ = None

-- from a root of a level on, each of which names one page alone, one comes to another root
abbrev pub Lowers : List Sheet → List (List ℕ) → ℕ → ℕ → ℕ → ℕ → Type 0
Lowers sheets pages root zero to level = (to ≡ root) × (level ≡ zero)
Lowers sheets pages root (suc below) to level =
    ((to ≡ root) × (level ≡ suc below))
    ⊎ ((page : ℕ) × (sole_page (entries_then sheets pages root) ≡ Some page) × (1 ≤ below) × Lowers sheets pages page below to level)

-- a root that doesn't give way: it is of level 1, or doesn't name one page alone
abbrev pub IsLowest : List Sheet → List (List ℕ) → ℕ → ℕ → Type 0
IsLowest sheets pages root levels = (levels ≤ 1) ⊎ (sole_page (entries_then sheets pages root) ≡ None)

-- the change with the root to which its root gives way
pub record LowersTo (pages : List (List ℕ)) (old new : ChangeView) : Type 0 where
  pub same : new ≡ record old { root = new.root; levels = new.levels }
  pub lowers : Lowers old.sheets pages old.root old.levels new.root new.levels
  pub lowest : IsLowest old.sheets pages new.root new.levels

-- one comes to a root that isn't spelled, and that can't be taken
abbrev pub IsRootRefused : ℕ → List (List ℕ) → ChangeView → ℕ → Option PageFault → Type 0
IsRootRefused last pages change n fault =
    (level : ℕ) × Lowers change.sheets pages change.root change.levels n level × (spelled_page change.sheets n ≡ None)
    × IsNotTaken last pages level (top n) None fault

-- why a root doesn't give way
abbrev pub IsLowerFault : ℕ → StoreFacts → ChangeView → IndexFault → Type 0
IsLowerFault last old change (Store store.Memory) = Unit {0}
IsLowerFault last old change (Store store.Device) = IsTrue old.can_fail
IsLowerFault last old change (Store store.NoPage) = (n : ℕ) × (page_count old ≤ n) × (IsHonest old → IsRootRefused last old.pages change n None)
IsLowerFault last old change (Store store.BadSize) = ⊥
IsLowerFault last old change (Page n fault) = IsHonest old → IsRootRefused last old.pages change n (Some fault)
IsLowerFault last old change Full = ⊥

-- a call with this result that reads roots
abbrev pub ReadsRoots : {A : Type 0} → ℕ → ChangeView → PagerView → PagerView → Result A IndexFault → Type 0
ReadsRoots last change old new result = ReadsIndex last (IsLowerFault last old.store change) old new result

-- the change by which the region's entry to which the key falls goes
abbrev pub IsDropped : IndexView → StoreFacts → Key → ChangeView → Type 0
IsDropped index store key change =
    (first : ChangeView) × IsPrepared index store key None (page_count store) (so_far [] (page_count store)) first
    × LowersTo store.pages first change

-- on all pages on which what a change spells stands, and the other pages of the index as they were, the root names two pages at
-- least, unless it is of level 1
abbrev pub MakesLow : IndexView → StoreFacts → ChangeView → Type 0
MakesLow index old change =
    (later : List (List ℕ)) → Stand later change.sheets → StayBut old.pages later change.sheets (pages_of_index index old)
    → (change.levels ≡ 1) ⊎ (2 ≤ length (entries_of later change.root))

-- why a region's entry doesn't go, which is never for want of pages or levels: as a change is refused; or as a root doesn't
-- give way
abbrev pub IsDropFault : IndexView → StoreFacts → Key → IndexFault → Type 0
IsDropFault index old key fault =
    IsNoGrowth fault
    × (IsChangeFault index old key None (so_far [] (page_count old)) fault
    ⊎ ((first : ChangeView)
    × (IsHonest old → IsPrepared index old key None (page_count old) (so_far [] (page_count old)) first)
    × IsLowerFault index.last old first fault))

-- a removal that is prepared with this result
abbrev pub PreparesDrop : {A : Type 0} → IndexView → Key → PagerView → PagerView → Result A IndexFault → Type 0
PreparesDrop index key old new result = ReadsIndex index.last (IsDropFault index old.store key) old new result
