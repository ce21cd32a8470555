-- A change of an index: the entry of the region that holds a key goes, or another one comes behind it; and which pages are
-- spelled anew on the way to it, as far as what stands there fits.
use Rattle.std.specs.Prelude.{◌≡◌, ◌≢◌, ◌≤◌, ◌<◌, ◌+◌, ◌++◌, ◌⊎◌, ℕ, zero, suc, IsTrue, List, [], ◌∷◌, Option, Some, None, Result, IfOk, IfErr, length, take, drop, slice_get}
use Rattle.std.specs.List.{AllByRecursion}
use Rattle.ub_index_change.specs.Changed.{BeginFrom}
use Rattle.ub_index.specs.Descending.{IsForgotten}
use Rattle.ub_index.specs.Fitting.{FallsTo}
use Rattle.ub_index.specs.Index.{first_or, entries_of, AscendTo, IsIndexPage, NamesFitting}
use Rattle.ub_index.specs.Searching.{ReadsIndex}
use Rattle.ub_index_change.specs.FullWay.{EndsFull}
use Rattle.ub_index.specs.Way.{StopsAt}
use Rattle.ub_index.specs.declared.fault.IndexFault.{IndexFault}
use Rattle.ub_index.specs.declared.fault.IndexFault.TheVariants.{Full, Page, Store}
use Rattle.ub_index_change.specs.declared.sheet.Sheet.{Sheet}
use Rattle.ub_index_change.specs.declared.told.Told.{Told}
use Rattle.ub_index_change.specs.declared.told.Told.TheVariants.{Same, Gone, One, Two}
use Rattle.ub_page.specs.Index.{index_page}
use Rattle.ub_page.specs.Entries.{IsEntry}
use Rattle.ub_region.specs.declared.entry.Entry.{Entry}
use Rattle.ub_store.specs.Facts.{StoreFacts, IsHonest, page_count}
use Rattle.ub_store.specs.View.{PagerView}
use Rattle.ub_store.specs.declared.fault.StoreFault.TheVariants as store
use Rattle.ub_table.specs.declared.row.Key.{Key}
use Rattle.ub_page.specs.declared.entries.TheConstants.{MAX_ENTRIES}
use Rattle.ub_store.specs.declared.store.TheConstants.{MAX_PAGES}
use Rattle.ub_index_change.specs.declared.sheets.TheConstants.{LEFT_ENTRIES}

-- the entries by which what an entry led to is named from then on
abbrev pub named_as : Told → Entry → List Entry
named_as Same entry = entry ∷ []
named_as Gone entry = []
named_as (One other) entry = other ∷ []
named_as (Two left right) entry = left ∷ right ∷ []

-- not by two entries
abbrev pub IsAtMostOne : Told → Type 0
IsAtMostOne (Two left right) = ⊥
IsAtMostOne _ = Unit {0}

-- not for want of pages, nor of levels
abbrev pub IsNoGrowth : IndexFault → Type 0
IsNoGrowth (Store store.BadSize) = ⊥
IsNoGrowth Full = ⊥
IsNoGrowth _ = Unit {0}

-- a result that takes no page and no level more
abbrev pub NeedsNoGrowth : Result Told IndexFault → Type 0
NeedsNoGrowth result = IfOk result IsAtMostOne × IfErr result IsNoGrowth

-- a region's entry goes, or this one comes behind it
abbrev pub with_added : Option Entry → Entry → Told
with_added None entry = Gone
with_added (Some added) entry = Two entry added

-- the pages that are spelled so far, in the order in which they are put, and the number of the next page that the store gets
pub record Spelled : Type 0 where
  pub sheets : List Sheet
  pub next : ℕ

abbrev pub so_far : List Sheet → ℕ → Spelled
so_far sheets next = record { sheets = sheets; next = next }

-- the page of these entries of a level, under this number
abbrev pub sheet_of : ℕ → ℕ → List Entry → Sheet
sheet_of number level entries = record { number = number; page = index_page (record { level = level; entries = entries }) }

-- how the page of an entry is named where it begins with this key: by the entry, or by another one
abbrev pub IsNamedBy : Entry → Key → Told → Type 0
IsNamedBy entry first Same = first ≡ entry.first
IsNamedBy entry first (One other) = (first ≢ entry.first) × (other ≡ record { first = first; page = entry.page })
IsNamedBy entry first _ = ⊥

-- this entry names the page of this number, and begins with the first of these entries
pub record NamesPage (number : ℕ) (entries : List Entry) (entry : Entry) : Type 0 where
  pub page_is : entry.page ≡ number
  pub begins : first_or entries None ≡ Some entry.first

-- these entries of a level stand from then on where an entry led: on its page, which begins as it did, or with another key;
-- nowhere, where there are none; or 171 on two, the first 86 on its page, and the others on a new one, which is put before it
abbrev pub Spreads : ℕ → Entry → List Entry → Spelled → Spelled → Told → Type 0
Spreads level entry entries old new Same =
    (length entries ≤ MAX_ENTRIES) × (first_or entries None ≡ Some entry.first)
    × (new ≡ so_far (old.sheets ++ sheet_of entry.page level entries ∷ []) old.next)
Spreads level entry entries old new Gone = (entries ≡ []) × (new ≡ old)
Spreads level entry entries old new (One other) =
    (length entries ≤ MAX_ENTRIES) × (other.first ≢ entry.first) × NamesPage entry.page entries other
    × (new ≡ so_far (old.sheets ++ sheet_of entry.page level entries ∷ []) old.next)
Spreads level entry entries old new (Two left right) =
    (length entries ≡ MAX_ENTRIES + 1) × (old.next < MAX_PAGES)
    × NamesPage entry.page (take LEFT_ENTRIES entries) left × NamesPage old.next (drop LEFT_ENTRIES entries) right
    × (new ≡ so_far (old.sheets ++ sheet_of old.next level (drop LEFT_ENTRIES entries) ∷ sheet_of entry.page level (take LEFT_ENTRIES entries) ∷ [])
    (old.next + 1))

-- an entry whose page has these entries before and after one that became `news`: it is as it was where that one is, and
-- otherwise what its page tells is spelled anew
abbrev pub Mends : ℕ → Entry → List Entry → Entry → List Entry → Told → Spelled → Spelled → Told → Type 0
Mends level entry before below after Same old new told = (told ≡ Same) × (new ≡ old)
Mends level entry before below after news old new told = Spreads level entry (before ++ (named_as news below ++ after)) old new told

-- what an entry of this level becomes where the region's entry to which the key falls goes, or gets this one behind it: each
-- page on the way fits
abbrev pub Turns : ℕ → List (List ℕ) → Key → Option Entry → ℕ → Entry → Option Key → Spelled → Spelled → Told → Type 0
Turns last pages key added zero entry end old new told = (told ≡ with_added added entry) × (new ≡ old)
Turns last pages key added (suc level) entry end old new told =
    NamesFitting last pages (suc level) entry end
    × (below : Entry) × (next : Option Key) × (falls : FallsTo key (entries_of pages entry.page) end below next)
    × (middle : Spelled) × (news : Told) × Turns last pages key added level below next old middle news
    × Mends (suc level) entry falls.before below falls.after news middle new told

-- why a page more isn't spelled: memory was refused, or there are as many pages as there can be
abbrev pub IsSpreadFault : Spelled → IndexFault → Type 0
IsSpreadFault old (Store store.Memory) = Unit {0}
IsSpreadFault old (Store store.BadSize) = MAX_PAGES ≤ old.next
IsSpreadFault old _ = ⊥

-- the page that an entry names fits, and has these entries before and after the one to which the key falls
pub record OpensTo (last : ℕ) (pages : List (List ℕ)) (key : Key) (level : ℕ) (entry : Entry) (end : Option Key) (before : List Entry) (below : Entry)
    (next : Option Key) (after : List Entry) : Type 0 where
  pub named : NamesFitting last pages level entry end
  pub falls : FallsTo key (entries_of pages entry.page) end below next
  pub before_is : falls.before ≡ before
  pub after_is : falls.after ≡ after

-- why a change is refused that goes down to the key from an entry of this level, where the next page would have this number: as
-- a search is, or since there would be too many pages, with one more for each of the lowest that are full
abbrev pub IsTurnFault : ℕ → StoreFacts → Key → ℕ → Entry → Option Key → ℕ → IndexFault → Type 0
IsTurnFault last old key level entry end next (Store store.Memory) = Unit {0}
IsTurnFault last old key level entry end next (Store store.Device) = IsTrue old.can_fail
IsTurnFault last old key level entry end next (Store store.NoPage) =
    (n : ℕ) × (page_count old ≤ n) × (IsHonest old → StopsAt last old.pages key level entry end n None)
IsTurnFault last old key level entry end next (Store store.BadSize) =
    (MAX_PAGES < next + level)
    × (IsHonest old → (full : ℕ) × EndsFull last old.pages key level entry end full × (MAX_PAGES < next + full))
IsTurnFault last old key level entry end next (Page n fault) = IsHonest old → StopsAt last old.pages key level entry end n (Some fault)
IsTurnFault last old key level entry end next Full = ⊥

-- a change that is prepared with this result, from an entry of this level on
abbrev pub Prepares : {A : Type 0} → ℕ → ℕ → Key → Entry → Option Key → ℕ → PagerView → PagerView → Result A IndexFault → Type 0
Prepares last level key entry end next old new result = ReadsIndex last (IsTurnFault last old.store key level entry end next) old new result

-- an entry of this level was to be turned, over the pages that were spelled before and those that are then, and this was answered
pub record TurnsAt (last level : ℕ) (key : Key) (added : Option Entry) (entry : Entry) (end : Option Key) (from to : Spelled) (old new : PagerView)
    (result : Result Told IndexFault) : Type 0 where
  pub turned : IsHonest old.store → IfOk result (Turns last old.store.pages key added level entry end from to)
  pub few : IfOk result (λ _. (from.next ≤ to.next) × (to.next ≤ from.next + level))
  pub narrow : added ≡ None → NeedsNoGrowth result
  pub still : added ≡ None → IfOk result (λ _. to.next ≡ from.next)
  pub forgotten : IfErr result (IsForgotten new)
  pub effect : Prepares last level key entry end from.next old new result

-- this number is none of those that are new from one on up to another
abbrev pub IsNoNew : ℕ → ℕ → ℕ → Type 0
IsNoNew from to n = (n < from) ⊎ (to ≤ n)

-- no page is spelled under this number
abbrev pub IsUnspelled : ℕ → List Sheet → Type 0
IsUnspelled n sheets = AllByRecursion (λ s. n ≢ s.number) sheets

-- each of the pages that are spelled is one of an index
abbrev pub AreIndexPages : ℕ → List Sheet → Type 0
AreIndexPages last sheets = AllByRecursion (λ s. IsIndexPage last s.page) sheets

-- on these pages the sheets stand
abbrev pub Stand : List (List ℕ) → List Sheet → Type 0
Stand pages sheets = AllByRecursion (λ s. slice_get pages s.number ≡ Some s.page) sheets

-- the pages of these numbers are as they were, but for those that are spelled
abbrev pub StayBut : List (List ℕ) → List (List ℕ) → List Sheet → List ℕ → Type 0
StayBut old new sheets numbers = AllByRecursion (λ n. IsUnspelled n sheets → slice_get new n ≡ slice_get old n) numbers

-- the entries that come where a region's entry was are in range and in order, from its key on and up to the next one
pub record IsFine (last : ℕ) (added : Option Entry) (found : Entry) (next : Option Key) : Type 0 where
  pub up : AscendTo (named_as (with_added added found) found) next
  pub later : BeginFrom found.first (named_as (with_added added found) found)
  pub entries : AllByRecursion (IsEntry last) (named_as (with_added added found) found)

-- each of these pages is spelled under a number below this one
abbrev pub AreBelow : ℕ → List Sheet → Type 0
AreBelow count sheets = AllByRecursion (λ s. s.number < count) sheets

-- no number is spelled twice
abbrev pub AreOnce : List Sheet → Type 0
AreOnce [] = Unit {0}
AreOnce (sheet ∷ sheets) = IsUnspelled sheet.number sheets × AreOnce sheets
