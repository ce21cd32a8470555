-- What a change of one entry does to the whole. Each is what the function of its name in `law` ensures.
use Rattle.std.specs.Prelude.{◌≡◌, ◌≤◌, ◌<◌, ◌+◌, ◌^◌, ◌++◌, [], ◌∷◌, ℕ, suc, nat_eq, List, Option, None, IfSome, length, take, drop}
use Rattle.std.specs.List.{AllByRecursion, flat_map, IsDistinct}
use Rattle.ub_index.specs.Spans.{ArePlaces}
use Rattle.ub_store.specs.Writing.{Grows}
use Rattle.ub_index.specs.Index.{AscendTo, IsUnder, under, pages_under}
use Rattle.ub_index.specs.Standing.{IsOutside, AreOwnPages, AreRegionsThere, OldStayOutside, region_pages}
use Rattle.ub_index_change.specs.Changed.{Becomes, BeginFrom, Replaces, Stays}
use Rattle.ub_index_change.specs.Changing.{IsFine, Spelled, Stand, StayBut, Turns, named_as, so_far, with_added}
use Rattle.ub_index_change.specs.Filling.{IsFilled, KeepsFilled}
use Rattle.ub_index_change.specs.Lowering.{IsRootRefused}
use Rattle.ub_index_change.specs.Making.{IsCommitted, PutsSheets, StayOutside, changed}
use Rattle.ub_index_change.specs.Preparing.{ChangeView, IsForeign, IsPrepared, MakesIndex, added_at}
use Rattle.ub_index.specs.View.{IsReachedOnce, pages_of_index, IndexView, IsIndexOn, IsRegionAt, entries_in, entry_at}
use Rattle.ub_index.specs.Way.{LeadsTo}
use Rattle.ub_index_change.specs.FullWay.{IsFullWay}
use Rattle.ub_region.specs.declared.region.Region.{Region}
use Rattle.ub_index_change.specs.declared.sheet.Sheet.{Sheet}
use Rattle.ub_index_change.specs.declared.told.Told.{Told}
use Rattle.ub_index_change.specs.declared.told.Told.TheVariants.{Two}
use Rattle.ub_page.specs.declared.header.TheConstants.{MAX_LEVEL}
use Rattle.ub_page.specs.Entries.{IsEntry}
use Rattle.ub_region.specs.declared.entry.Entry.{Entry}
use Rattle.ub_store.specs.Facts.{StoreFacts, IsHonest, page_count}
use Rattle.ub_table.specs.Keys.{IsBefore, origin}
use Rattle.ub_table.specs.declared.fault.PageFault.{PageFault}
use Rattle.ub_table.specs.declared.row.Key.{Key}

-- where a region's entry became others, they stand in its place in the whole list
abbrev pub ChangeReplaces : Type 0
ChangeReplaces = (last : ℕ) (old new : List (List ℕ)) (f : Entry) (fs : List Entry) (next : Option Key) (level : ℕ) (entry : Entry)
    (end : Option Key) (told : List Entry) → Becomes last old new f fs next level entry end told
    → Replaces f fs (under old level entry) (flat_map (under new level) told)

-- and where they are in order, none before it and all before the next one, what an upper entry became is an index again
abbrev pub ChangeKeepsOrder : Type 0
ChangeKeepsOrder = (last : ℕ) (old new : List (List ℕ)) (f : Entry) (fs : List Entry) (next : Option Key) (level : ℕ) (entry : Entry)
    (end : Option Key) (told : List Entry) → AscendTo fs next → BeginFrom f.first fs
    → IfSome end (IsBefore entry.first) → IsUnder last old level entry end
    → Becomes last old new f fs next level entry end told → Stays last new level entry end told

-- where a change turns on an index each page of which is reached once, and what comes is fine, what it spells makes of the
-- entry what `Becomes` says, on all later pages on which that stands, and the index's other pages as they were
abbrev pub TurnsBecome : Type 0
TurnsBecome = (last : ℕ) (old : List (List ℕ)) (key : Key) (added : Option Entry) (level : ℕ) (entry : Entry) (end : Option Key)
    (from to : Spelled) (told : Told) → last < 2 ^ 128 → length old ≤ from.next → IsUnder last old level entry end → IsEntry last entry
    → IsDistinct nat_eq (pages_under old level entry)
    → ((found : Entry) (next : Option Key) → LeadsTo last old key level entry end found next → IsFine last added found next)
    → Turns last old key added level entry end from to told
    → (found : Entry) × (next : Option Key) × LeadsTo last old key level entry end found next
    × (sheets : List Sheet) × (to.sheets ≡ from.sheets ++ sheets)
    × ((later : List (List ℕ)) → Stand later sheets → StayBut old later sheets (pages_under old level entry)
    → Becomes last old later found (named_as (with_added added found) found) next level entry end (named_as told entry))

-- an entry becomes two only where each page on the way is full
abbrev pub FullWaysPart : Type 0
FullWaysPart = (last : ℕ) (old : List (List ℕ)) (key : Key) (added : Option Entry) (level : ℕ) (entry : Entry) (end : Option Key)
    (from to : Spelled) (left right : Entry) → Turns last old key added level entry end from to (Two left right)
    → IsFullWay last old key level entry end

-- where a change makes an index of that on the old store, it is made once the store has grown, pages of regions have been put,
-- none of which is one of the old index or one that the change brings, and then the pages that it spells
abbrev pub ChangeIsMade : Type 0
ChangeIsMade = (index : IndexView) (old grown filled new : StoreFacts) (from : ℕ) (change : ChangeView) (f : Entry) (fs : List Entry) (numbers : List ℕ)
    → IsIndexOn index old → MakesIndex index old from change (Replaces f fs (entries_in index old)) → Grows old grown
    → StayOutside numbers grown.pages filled.pages → AllByRecursion (IsForeign index old from change) numbers → IsHonest filled → IsHonest new
    → PutsSheets change.sheets filled new → Stand new.pages change.sheets → IsCommitted index old from change f fs filled new

-- a change puts neither the first page, nor a page of a region, nor that of the region that comes
abbrev pub RegionsAreForeign : Type 0
RegionsAreForeign = (index : IndexView) (old : StoreFacts) (from : ℕ) (change : ChangeView)
    → IsIndexOn index old → AreOwnPages index old → AreRegionsThere index old → page_count old ≤ from
    → AllByRecursion (IsForeign index old from change) (0 ∷ region_pages (entries_in index old))
    × (page_count old < from → IsForeign index old from change (page_count old))

-- where no page serves twice, none does once a region has come, on the page that the store got first
abbrev pub AddedPagesAreOwn : Type 0
AddedPagesAreOwn = (index : IndexView) (old filled new : StoreFacts) (change : ChangeView) (f : Entry) (first : Key)
    → IsIndexOn index old → AreOwnPages index old → AreRegionsThere index old
    → IsCommitted index old (page_count old + 1) change f (f ∷ added_at first old ∷ []) filled new
    → AreOwnPages (changed index change) new

-- nor once one has gone
abbrev pub DroppedPagesAreOwn : Type 0
DroppedPagesAreOwn = (index : IndexView) (old filled new : StoreFacts) (change : ChangeView) (f : Entry)
    → IsIndexOn index old → AreOwnPages index old → AreRegionsThere index old
    → IsCommitted index old (page_count old) change f [] filled new → AreOwnPages (changed index change) new

-- on an index each page of which is reached once, once the entry of a region that isn't the first has gone: no root is refused to
-- which its root gives way
abbrev pub RootsAreTaken : Type 0
RootsAreTaken = (index : IndexView) (store : StoreFacts) (i : ℕ) (region : Region) (change : ChangeView) (n : ℕ) (fault : Option PageFault)
    → index.last < 2 ^ 128 → index.levels ≤ MAX_LEVEL → page_count store < 2 ^ 32 → IsIndexOn index store → IsReachedOnce index store
    → IsRegionAt (entries_in index store) i region → IsBefore origin region.first
    → IsPrepared index store region.first None (page_count store) (so_far [] (page_count store)) change
    → ¬ (IsRootRefused index.last store.pages change n fault)

-- where entries stand in the place of one, there are so many: with two one more, with none one less
abbrev pub EntriesCount : Type 0
EntriesCount = (f : Entry) (fs old new : List Entry) → Replaces f fs old new → length new + 1 ≡ length old + length fs

-- and where that one was the entry of a region, they stand at its index
abbrev pub ReplacesAtRegion : Type 0
ReplacesAtRegion = (last : ℕ) (entries new : List Entry) (i : ℕ) (region : Region) (fs : List Entry) → ArePlaces last entries
    → IsRegionAt entries i region → Replaces (entry_at region) fs entries new → new ≡ take i entries ++ (fs ++ drop (suc i) entries)

-- an index of one level is filled, whatever its root names
abbrev pub NewIndexIsFilled : Type 0
NewIndexIsFilled = (index : IndexView) (pages : List (List ℕ)) → index.levels ≡ 1 → IsFilled index pages

-- where a change keeps an index filled, it is once the change is made, as `ChangeIsMade` says of it
abbrev pub ChangeFills : Type 0
ChangeFills = (index : IndexView) (old grown filled new : StoreFacts) (from : ℕ) (change : ChangeView) (f : Entry) (fs : List Entry) (numbers : List ℕ)
    → IsIndexOn index old → MakesIndex index old from change (Replaces f fs (entries_in index old)) → Grows old grown
    → StayOutside numbers grown.pages filled.pages → AllByRecursion (IsForeign index old from change) numbers → IsHonest filled → IsHonest new
    → PutsSheets change.sheets filled new → Stand new.pages change.sheets → KeepsFilled index old change → IsFilled index old.pages
    → IsFilled (changed index change) new.pages

-- where pages are put anew none of which is the index's own, and the others stay, an index is filled as it was
abbrev pub RegionsKeepFilled : Type 0
RegionsKeepFilled = (index : IndexView) (old new : StoreFacts) (numbers : List ℕ) → IsIndexOn index old → IsReachedOnce index old
    → IsHonest new → OldStayOutside numbers old.pages new.pages
    → AllByRecursion (λ n. IsOutside n (pages_of_index index old)) numbers → IsFilled index old.pages → IsFilled index new.pages

-- an index that is filled, and has fewer regions than there can be pages, has fewer levels than there can be
abbrev pub FilledIndexIsLow : Type 0
FilledIndexIsLow = (index : IndexView) (store : StoreFacts) → IsIndexOn index store → IsFilled index store.pages
    → length (entries_in index store) < 2 ^ 32 → index.levels < MAX_LEVEL
