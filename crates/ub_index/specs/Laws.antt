-- What holds of every index. Each is what the function of its name in `law` ensures.
use Rattle.std.specs.Prelude.{◌≡◌, ◌≤◌, ◌<◌, ◌^◌, ◌⊎◌, ◌↔◌, [], ◌∷◌, ℕ, List, Option, None, IfSome, length, slice_get}
use Rattle.ub_index.specs.Common.{AllByRecursion, AscendTo, Entry, IsBefore, IsHonest, IsIndexPage, IsUnder, Key, PageFault, pages_under, Region}
use Rattle.ub_index.specs.Common.{StoreFacts, under, zero_page}
use Rattle.ub_index.specs.Spans.{ArePlaces, first_keys}
use Rattle.ub_index.specs.Standing.{PagesStay, IsOutside, AddsNoIndexPage, AreOwnPages, OldStayOutside, StandsAsOn, region_pages}
use Rattle.ub_index.specs.View.{IsReachedOnce, pages_of_index, IndexView, IsIndexOn, IsRegionAt, Leads, Stops, entries_in, entry_at}
use Rattle.ub_index.specs.Way.{HoldsKey, StopsAt}
use Rattle.ub_page.specs.Entries.{IsEntry}
use Rattle.ub_region.specs.Regions.{index_holding}

-- the regions' entries under an entry are in order, up to the end
abbrev pub WholeAscends : Type 0
WholeAscends = (last : ℕ) (pages : List (List ℕ)) (level : ℕ) (entry : Entry) (end : Option Key)
    → IfSome end (IsBefore entry.first) → IsUnder last pages level entry end
    → AscendTo (under pages level entry) end

-- on the way to a key no page is refused, and none is missing
abbrev pub WaysNeverStop : Type 0
WaysNeverStop = (last : ℕ) (pages : List (List ℕ)) (key : Key) (level : ℕ) (entry : Entry)
    (end : Option Key) (n : ℕ) (fault : Option PageFault)
    → last < 2 ^ 128 → IsUnder last pages level entry end → ¬ (StopsAt last pages key level entry end n fault)

-- where the pages under an entry stay, so do the regions' entries under it, and the index
abbrev pub OthersStay : Type 0
OthersStay = (last : ℕ) (old new : List (List ℕ)) (level : ℕ) (entry : Entry) (end : Option Key)
    → PagesStay old new (pages_under old level entry) → IsUnder last old level entry end
    → IsUnder last new level entry end × (under new level entry ≡ under old level entry)

-- the pages under an entry are pages of the store
abbrev pub PagesAreThere : Type 0
PagesAreThere = (last : ℕ) (pages : List (List ℕ)) (level : ℕ) (entry : Entry) (end : Option Key) → IsUnder last pages level entry end
    → AllByRecursion (λ n. n < length pages) (pages_under pages level entry)

-- the entries of an index are those of a table's regions in order: one at least, each in range
abbrev pub EntriesArePlaces : Type 0
EntriesArePlaces = (index : IndexView) (store : StoreFacts) → IsIndexOn index store
    → ArePlaces index.last (entries_in index store) × (1 ≤ length (entries_in index store))
    × AllByRecursion (IsEntry index.last) (entries_in index store)

-- where pages are put anew none of which is the index's own, and the others stay, the index stands as it stood
abbrev pub RegionsMayChange : Type 0
RegionsMayChange = (index : IndexView) (old new : StoreFacts) (numbers : List ℕ) → IsIndexOn index old → IsReachedOnce index old
    → IsHonest new → OldStayOutside numbers old.pages new.pages
    → AllByRecursion (λ n. IsOutside n (pages_of_index index old)) numbers → StandsAsOn index old new

-- over any pages, where those that there were stay: a way leads where it led, and one that leads to a region led there, or stopped where no page was
abbrev pub WaysStay : Type 0
WaysStay = (index : IndexView) (old new : StoreFacts) (key : Key) (region : Region)
    → OldStayOutside [] old.pages new.pages
    → (Leads index old key region → Leads index new key region)
    × (Leads index new key region → Leads index old key region ⊎ ((n : ℕ) × Stops index old key n None))

-- and where none of those that came is a page of an index, the ways are the same
abbrev pub WaysAreTheSame : Type 0
WaysAreTheSame = (index : IndexView) (old new : StoreFacts) (key : Key) (region : Region) → OldStayOutside [] old.pages new.pages
    → AddsNoIndexPage index.last old.pages new.pages → Leads index old key region ↔ Leads index new key region

-- over any pages: no way from a root that isn't page 0 leads to page 0 or stops there, and where all other pages stay, the ways are the same
abbrev pub WaysMissFirst : Type 0
WaysMissFirst = (index : IndexView) (old new : StoreFacts) (key : Key) → 1 ≤ index.root
    → ((region : Region) → Leads index old key region → 1 ≤ region.page)
    × ((n : ℕ) (fault : Option PageFault) → Stops index old key n fault → 1 ≤ n)
    × (((n : ℕ) → 1 ≤ n → slice_get new.pages n ≡ slice_get old.pages n)
    → ((region : Region) → Leads index old key region ↔ Leads index new key region)
    × ((n : ℕ) (fault : Option PageFault) → Stops index old key n fault ↔ Stops index new key n fault))

-- a page of zeros, as a store adds it, is none of an index
abbrev pub ZerosAreNoIndexPage : Type 0
ZerosAreNoIndexPage = (last : ℕ) → ¬ (IsIndexPage last zero_page)

-- over any pages: the region to which the way to a key leads holds that key, and its own first key; and the way to each key that it holds leads to it
abbrev pub WaysHold : Type 0
WaysHold = (index : IndexView) (store : StoreFacts) (key : Key) (region : Region) → Leads index store key region
    → HoldsKey key region.first region.next × HoldsKey region.first region.first region.next
    × ((other : Key) → HoldsKey other region.first region.next → Leads index store other region)

-- over any pages: the way to a key leads to one region
abbrev pub WaysAreOne : Type 0
WaysAreOne = (index : IndexView) (store : StoreFacts) (key : Key) (a b : Region)
    → Leads index store key a → Leads index store key b → (entry_at a ≡ entry_at b) × (a.next ≡ b.next)

-- on an index ways lead to its regions: the way to a key leads to the region which holds it, and to each there is one
abbrev pub RegionsAreLedTo : Type 0
RegionsAreLedTo = (index : IndexView) (store : StoreFacts) → IsIndexOn index store
    → ((key : Key) (region : Region) → Leads index store key region
    → IsRegionAt (entries_in index store) (index_holding key (first_keys (entries_in index store))) region)
    × ((i : ℕ) (region : Region) → IsRegionAt (entries_in index store) i region → Leads index store region.first region)

-- where no page serves twice, the first and those of the regions are none of the index
abbrev pub OwnPagesStandApart : Type 0
OwnPagesStandApart = (index : IndexView) (store : StoreFacts) → AreOwnPages index store
    → AllByRecursion (λ n. IsOutside n (pages_of_index index store)) (0 ∷ region_pages (entries_in index store))
