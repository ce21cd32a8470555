-- A change of an index that is prepared: what it spells, and what the index is once that stands.
use Rattle.std.specs.Prelude.{◌≡◌, ◌≤◌, ◌<◌, ◌+◌, ◌^◌, ◌++◌, ◌⊎◌, ℕ, nat_eq, IsTrue, List, [], ◌∷◌, Option, Some, None, IfSome, Result, IfErr, IfOk}
use Rattle.std.specs.List.{IsDistinct}
use Rattle.ub_index_change.specs.FullWay.{EndsFull, IsFullWay}
use Rattle.ub_index_change.specs.Changing.{AreOnce, IsNoGrowth, IsNoNew, IsUnspelled, Spelled, Stand, StayBut, Turns, sheet_of, so_far}
use Rattle.ub_index.specs.Descending.{IsForgotten}
use Rattle.ub_index.specs.Standing.{IsOutside}
use Rattle.ub_index.specs.Index.{IsUnder, pages_under, top, under}
use Rattle.ub_index.specs.Searching.{ReadsIndex}
use Rattle.ub_index.specs.View.{IndexView, Stops, pages_of_index}
use Rattle.ub_index.specs.declared.fault.IndexFault.{IndexFault}
use Rattle.ub_index.specs.declared.fault.IndexFault.TheVariants.{Full, Page, Store}
use Rattle.ub_index_change.specs.declared.sheet.Sheet.{Sheet}
use Rattle.ub_index_change.specs.declared.told.Told.{Told}
use Rattle.ub_index_change.specs.declared.told.Told.TheVariants.{Same, Gone, One, Two}
use Rattle.ub_page.specs.declared.header.TheConstants.{MAX_LEVEL}
use Rattle.ub_region.specs.declared.entry.Entry.{Entry}
use Rattle.ub_store.specs.Facts.{StoreFacts, IsHonest, page_count}
use Rattle.ub_store.specs.View.{PagerView}
use Rattle.ub_store.specs.declared.fault.StoreFault.TheVariants as store
use Rattle.ub_store.specs.declared.store.TheConstants.{MAX_PAGES}
use Rattle.ub_table.specs.Keys.{IsBefore}
use Rattle.ub_table.specs.declared.fault.PageFault.TheVariants.{BadCount}
use Rattle.ub_table.specs.declared.row.Key.{Key}
use Rattle.ub_table.specs.declared.row.TheConstants.{MAX_ROW_NUMBER}

-- a change: the pages that it spells, in the order in which they are put; how many pages the store has, and how many it gets;
-- and the root from then on, and its level
pub record ChangeView : Type 0 where
  pub sheets : List Sheet
  pub start : ℕ
  pub next : ℕ
  pub root : ℕ
  pub levels : ℕ

abbrev pub change_view : Spelled → ℕ → ℕ → ℕ → ChangeView
change_view pages start root levels = record { sheets = pages.sheets; start = start; next = pages.next; root = root; levels = levels }

-- what the root of an index becomes: it stays on its page; or its entries stand on two, which a new root names
abbrev pub Settles : ℕ → ℕ → Told → ℕ → Spelled → ChangeView → Type 0
Settles root levels Same start old change = change ≡ change_view old start root levels
Settles root levels Gone start old change = ⊥
Settles root levels (One other) start old change = change ≡ change_view old start root levels
Settles root levels (Two left right) start old change =
    (levels < MAX_LEVEL) × (old.next < MAX_PAGES)
    × (change ≡ change_view (so_far (old.sheets ++ sheet_of old.next (levels + 1) (left ∷ right ∷ []) ∷ []) (old.next + 1)) start old.next (levels + 1))

-- why the root can't be left so, where something is left: memory was refused, or there are as many pages as there can be; or it
-- would be of a level above the highest
abbrev pub IsSettleFault : ℕ → ℕ → Told → Spelled → IndexFault → Type 0
IsSettleFault root levels told old (Store store.Memory) = Unit {0}
IsSettleFault root levels told old (Store store.BadSize) =
    (MAX_PAGES ≤ old.next) × (levels < MAX_LEVEL) × (left : Entry) × (right : Entry) × (told ≡ Two left right)
IsSettleFault root levels told old (Store fault) = ⊥
IsSettleFault root levels told old (Page n fault) = ⊥
IsSettleFault root levels told old Full = (levels ≡ MAX_LEVEL) × (left : Entry) × (right : Entry) × (told ≡ Two left right)

-- what becomes of the root where the region's entry to which the key falls goes, or gets this one behind it
abbrev pub TurnsRoot : IndexView → StoreFacts → Key → Option Entry → Spelled → Spelled → Told → Type 0
TurnsRoot index store key added old new told = Turns index.last store.pages key added index.levels (top index.root) None old new told

-- the change that is prepared
abbrev pub IsPrepared : IndexView → StoreFacts → Key → Option Entry → ℕ → Spelled → ChangeView → Type 0
IsPrepared index store key added start old change =
    (middle : Spelled) × (told : Told) × TurnsRoot index store key added old middle told × Settles index.root index.levels told start middle change

-- on these pages an index stands, with this root, each page of which is reached once, and the entries of which have the
-- property
pub record IsIndexThen (last : ℕ) (later : List (List ℕ)) (root levels : ℕ) (Are : List Entry → Type 0) : Type 0 where
  pub low : 1 ≤ levels
  pub high : levels ≤ MAX_LEVEL
  pub under_it : IsUnder last later levels (top root) None
  pub reached : IsDistinct nat_eq (0 ∷ pages_under later levels (top root))
  pub entries_are : Are (under later levels (top root))

-- the page of this number isn't one of the old index, nor one of those that a change brings, the first of which has the number
-- `from`
abbrev pub IsForeign : IndexView → StoreFacts → ℕ → ChangeView → ℕ → Type 0
IsForeign index old from change n = IsNoNew from change.next n × IsOutside n (pages_of_index index old)

-- a change begins with as many pages as the store has, spells none twice, and none but those of the old index and those that it
-- brings; and on all pages on which what it spells stands, and the other pages of the old index as they were, it makes an
-- index, which has no other pages either
pub record MakesIndex (index : IndexView) (old : StoreFacts) (from : ℕ) (change : ChangeView) (Are : List Entry → Type 0) : Type 0 where
  pub start : change.start ≡ page_count old
  pub once : AreOnce change.sheets
  pub own : (n : ℕ) → IsForeign index old from change n → IsUnspelled n change.sheets
  pub makes : (later : List (List ℕ)) → Stand later change.sheets → StayBut old.pages later change.sheets (pages_of_index index old)
      → IsIndexThen index.last later change.root change.levels Are
  pub no_other : (later : List (List ℕ)) → Stand later change.sheets → StayBut old.pages later change.sheets (pages_of_index index old)
      → (n : ℕ) → IsForeign index old from change n → IsOutside n (pages_under later change.levels (top change.root))

-- the entry of a region that comes with this first key, on the next page that the store gets
abbrev pub added_at : Key → StoreFacts → Entry
added_at first store = record { first = first; page = page_count store }

-- a key between the first key of a region and that of the next one, in range
pub record IsWithinRegion (last : ℕ) (start : Key) (next : Option Key) (first : Key) : Type 0 where
  pub from : IsBefore start first
  pub to : IfSome next (IsBefore first)
  pub z : first.z ≤ last
  pub number : first.number ≤ MAX_ROW_NUMBER

-- from the root each page on the way to the key is full
abbrev pub HasFullWay : IndexView → StoreFacts → Key → Type 0
HasFullWay index store key = IsFullWay index.last store.pages key index.levels (top index.root) None

-- an index needs n pages more where a region comes behind that of the key: one for each of the lowest pages on the way that are
-- full, and one for a new root, where all are, and there may be a level more
abbrev pub NeedsPages : IndexView → StoreFacts → Key → ℕ → Type 0
NeedsPages index store key n =
    (full : ℕ) × EndsFull index.last store.pages key index.levels (top index.root) None full
    × (((full ≡ index.levels → MAX_LEVEL ≤ index.levels) × (n ≡ full)) ⊎ ((full ≡ index.levels) × (index.levels < MAX_LEVEL) × (n ≡ full + 1)))

-- a change begins with so many pages, and its next one has this number at least, and is so much further at most
pub record TakesFew (start next most : ℕ) (change : ChangeView) : Type 0 where
  pub start_is : change.start ≡ start
  pub more : next ≤ change.next
  pub few : change.next ≤ next + most

-- an addition takes one page for the region, and those that the index needs, no more and no fewer; so many there may be; and
-- where there can be no level more, not each page on the way is full
pub record TakesNeeded (index : IndexView) (old : StoreFacts) (key : Key) (change : ChangeView) : Type 0 where
  pub all : (n : ℕ) → NeedsPages index old key n → page_count old + 1 + n ≤ change.next
  pub only : (n : ℕ) × NeedsPages index old key n × (change.next ≡ page_count old + 1 + n)
  pub room : change.next ≤ MAX_PAGES
  pub level : index.levels ≡ MAX_LEVEL → ¬ (HasFullWay index old key)

-- why a change isn't prepared: as a search to the key is refused; BadSize, where the store would have too many pages; Full,
-- where it wouldn't, but the root would get a level that there isn't; and BadCount of the root, where no region would be left
abbrev pub IsChangeFault : IndexView → StoreFacts → Key → Option Entry → Spelled → IndexFault → Type 0
IsChangeFault index old key added from (Store store.Memory) = Unit {0}
IsChangeFault index old key added from (Store store.Device) = IsTrue old.can_fail
IsChangeFault index old key added from (Store store.NoPage) =
    (n : ℕ) × (page_count old ≤ n) × (IsHonest old → Stops index old key n None)
IsChangeFault index old key added from (Store store.BadSize) =
    (MAX_PAGES < from.next + (index.levels + 1))
    × ((MAX_PAGES < from.next) ⊎ (IsHonest old → (n : ℕ) × NeedsPages index old key n × (MAX_PAGES < from.next + n)))
IsChangeFault index old key added from (Page n fault) =
    IsHonest old → Stops index old key n (Some fault)
    ⊎ ((n ≡ index.root) × (fault ≡ BadCount) × (to : Spelled) × TurnsRoot index old key added from to Gone)
IsChangeFault index old key added from Full =
    (index.levels ≡ MAX_LEVEL) × (IsHonest old → HasFullWay index old key × (from.next + MAX_LEVEL ≤ MAX_PAGES))

-- a change that is prepared with this result
abbrev pub PreparesAll : {A : Type 0} → IndexView → Key → Option Entry → Spelled → PagerView → PagerView → Result A IndexFault → Type 0
PreparesAll index key added from old new result = ReadsIndex index.last (IsChangeFault index old.store key added from) old new result

-- a change was to be prepared, where some pages may be spelled already, and this was answered; the index is one that there can be
pub record PreparesFrom (index : IndexView) (key : Key) (added : Option Entry) (start : ℕ) (from : Spelled) (old new : PagerView)
    (result : Result ChangeView IndexFault) : Type 0 where
  pub bounds : (index.last < 2 ^ 128) × (index.levels ≤ MAX_LEVEL) × (1 ≤ index.levels) × (1 ≤ index.root)
  pub made : IsHonest old.store → IfOk result (IsPrepared index old.store key added start from)
  pub few : IfOk result (TakesFew start from.next (index.levels + 1))
  pub narrow : added ≡ None → IfErr result IsNoGrowth
  pub forgotten : IfErr result (IsForgotten new)
  pub still : added ≡ None → IfOk result (λ c. c.next ≡ from.next)
  pub effect : PreparesAll index key added from old new result
