-- What contracts see of an index.
use Rattle.std.specs.Prelude.{◌≡◌, ◌≤◌, ◌<◌, ◌+◌, ℕ, suc, List, Option, Some, None, length, slice_get, nat_eq, ◌∷◌}
use Rattle.ub_index.specs.Common.{Entry, IsDistinct, IsHonest, IsUnder, Key, PageFault, pages_under, Region, StoreFacts, top, under}
use Rattle.ub_index.specs.Spans.{first_keys}
use Rattle.ub_index.specs.Way.{LeadsTo, StopsAt}

-- an index: the page of its root, of which level that is, and the last address of the space
pub record IndexView : Type 0 where
  pub root : ℕ
  pub levels : ℕ
  pub last : ℕ

abbrev pub index_view : ℕ → ℕ → ℕ → IndexView
index_view root levels last = record { root = root; levels = levels; last = last }

-- the entries of all its regions, in order, as these pages tell them
abbrev pub entries_under : IndexView → List (List ℕ) → List Entry
entries_under index pages = under pages index.levels (top index.root)

abbrev pub entries_in : IndexView → StoreFacts → List Entry
entries_in index store = entries_under index store.pages

-- the pages of an index, each upper one before those below it
abbrev pub pages_of_index : IndexView → StoreFacts → List ℕ
pages_of_index index store = pages_under store.pages index.levels (top index.root)

-- the store is honest, and on its pages an index stands
pub record IsIndexOn (index : IndexView) (store : StoreFacts) : Type 0 where
  pub honest : IsHonest store
  pub some : 1 ≤ index.levels
  pub under_it : IsUnder index.last store.pages index.levels (top index.root) None

-- each page of it is reached once, and none is the store's first
abbrev pub IsReachedOnce : IndexView → StoreFacts → Type 0
IsReachedOnce index store = IsDistinct nat_eq (0 ∷ pages_of_index index store)

abbrev pub entry_at : Region → Entry
entry_at region = record { first = region.first; page = region.page }

-- the region is that of the entry of this index, whatever its span is
pub record IsRegionAt (entries : List Entry) (i : ℕ) (region : Region) : Type 0 where
  pub within : i < length entries
  pub entry : slice_get entries i ≡ Some (entry_at region)
  pub next : region.next ≡ slice_get (first_keys entries) (suc i)

-- the region after that of this index, or none where it is the last
abbrev pub IsNextRegion : List Entry → ℕ → Option Region → Type 0
IsNextRegion entries i None = length entries ≡ i + 1
IsNextRegion entries i (Some next) = IsRegionAt entries (i + 1) next

-- the region before that of this index, or none where it is the first
abbrev pub IsPreviousRegion : List Entry → ℕ → Option Region → Type 0
IsPreviousRegion entries i None = i ≡ 0
IsPreviousRegion entries i (Some before) = (j : ℕ) × (i ≡ j + 1) × IsRegionAt entries j before

-- from the root the way to the key ends at this region, whatever its span is
abbrev pub Leads : IndexView → StoreFacts → Key → Region → Type 0
Leads index store key region = LeadsTo index.last store.pages key index.levels (top index.root) None (entry_at region) region.next

-- from the root the way to the key stops at the page n
abbrev pub Stops : IndexView → StoreFacts → Key → ℕ → Option PageFault → Type 0
Stops index store key n fault = StopsAt index.last store.pages key index.levels (top index.root) None n fault
