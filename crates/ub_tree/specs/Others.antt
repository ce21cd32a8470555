-- Which pages of its store a change of a tree leaves as they are, and what it does to the regions that the tree counts.
use Rattle.std.specs.Prelude.{◌≡◌, ◌≢◌, ◌≤◌, ◌+◌, ◌<◌, ◌⊎◌, ◌++◌, ℕ, List, [], ◌∷◌, Some, length, slice_get}
use Rattle.ub_tree.specs.Common.{HoldsKey, IsHonest, IsOutside, Key, MAX_LEVEL, NeedsPages, page_count, Region, region_count, region_page, reserved}
use Rattle.ub_tree.specs.Common.{Row, StoreFacts, TreeView}
use Rattle.ub_tree.specs.Told.{FallsTo, IsRegionOf, KeepsTold}

-- the pages that there were are as they were, but for those of these numbers
abbrev pub AreOthersKept : List ℕ → List (List ℕ) → List (List ℕ) → Type 0
AreOthersKept numbers old new = (m : ℕ) → IsOutside m numbers → m < length old → slice_get new m ≡ slice_get old m

-- so it is of the pages, and of those that last, unless they are the ones that lasted before
pub record KeepsOthers (numbers : List ℕ) (old new : StoreFacts) : Type 0 where
  pub kept : IsHonest old → AreOthersKept numbers old.pages new.pages
  pub lasting : IsHonest old → (new.synced ≡ old.synced) ⊎ AreOthersKept numbers old.pages new.synced

-- of the pages that there were only the first and this one are written
abbrev pub WritesPage : ℕ → TreeView → TreeView → Type 0
WritesPage page old new = KeepsOthers (0 ∷ page ∷ []) old.store new.store

-- of the pages that there were only the first, this one and those of the index are written
abbrev pub WritesIndex : ℕ → TreeView → TreeView → Type 0
WritesIndex page old new = KeepsOthers (reserved old.inner.index old.store.pages ++ page ∷ []) old.store new.store

-- of the pages that there were only the first, that of one region that the tree tells of, and those of the index are written
abbrev pub WritesOneRegion : TreeView → TreeView → Type 0
WritesOneRegion old new = (page : ℕ) × ((page ≡ 0) ⊎ ((span : Region) × IsRegionOf old span × (span.page ≡ page))) × WritesIndex page old new

-- the tree tells of the same regions, and the store has as many pages
abbrev pub KeepsEntries : TreeView → TreeView → Type 0
KeepsEntries old new = KeepsTold old new × (page_count new.store ≡ page_count old.store)

-- each key falls where it fell, unless to the region that begins with this key
abbrev pub KeepsAllBut : Key → TreeView → TreeView → Type 0
KeepsAllBut first old new = IsHonest old.store → (key : Key) (span : Region) → FallsTo old key span → span.first ≢ first → FallsTo new key span

-- one of the halves of a region: what of it is before a key, on its page; or what is from that key on, on this other page
abbrev pub IsHalfOf : Region → Key → ℕ → Region → Type 0
IsHalfOf span middle page half =
    ((half.first ≡ span.first) × (half.page ≡ span.page) × (half.next ≡ Some middle))
    ⊎ ((half.first ≡ middle) × (half.page ≡ page) × (half.next ≡ span.next))

-- the region that begins with this key was split at another, its second half on a new page: each key that fell to it falls to one of its halves
abbrev pub SplitsKeys : Key → TreeView → TreeView → Type 0
SplitsKeys first old new =
    IsHonest old.store → (middle : Key) × (rows : List Row)
    × (slice_get new.store.pages (page_count old.store) ≡ Some (region_page new.schema (record { first = middle; rows = rows })))
    × ((key : Key) (span : Region) → FallsTo old key span → span.first ≡ first
    → (half : Region) × IsHalfOf span middle (page_count old.store) half × FallsTo new key half)

-- the region that begins with this key was split: one more is counted, with a page, and those that the index needs; each other is told of as before
abbrev pub AddsEntry : Key → TreeView → TreeView → Type 0
AddsEntry first old new =
    (region_count new ≡ region_count old + 1)
    × (n : ℕ) × (page_count new.store ≡ page_count old.store + 1 + n) × (n ≤ MAX_LEVEL + 1)
    × (IsHonest old.store → NeedsPages old.inner.index old.store first n) × KeepsAllBut first old new × SplitsKeys first old new

-- each key falls where it fell, unless to this region, or to the one that follows it
abbrev pub KeepsBeside : Region → TreeView → TreeView → Type 0
KeepsBeside first old new =
    IsHonest old.store → (key : Key) (span : Region) → FallsTo old key span → span.next ≢ first.next → first.next ≢ Some span.first → FallsTo new key span

-- this region has taken in the one that follows it: it ends where that ended, and each key that is in it then falls to it
abbrev pub JoinsKeys : Region → TreeView → TreeView → Type 0
JoinsKeys first old new =
    IsHonest old.store → (second : Region) × IsRegionOf old second × (first.next ≡ Some second.first)
    × ((key : Key) → HoldsKey key first.first second.next → FallsTo new key (record first { next = second.next; to = second.to }))

-- a region fewer is counted, and the store has as many pages; this one takes in the next, and the others are told of as before
abbrev pub DropsEntry : Region → TreeView → TreeView → Type 0
DropsEntry first old new =
    (region_count old ≡ region_count new + 1) × (page_count new.store ≡ page_count old.store) × KeepsBeside first old new × JoinsKeys first old new
