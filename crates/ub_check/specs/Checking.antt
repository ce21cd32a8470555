-- What a check of a table's pages comes to, page by page, and where it stops.
use Rattle.std.specs.Prelude.{◌≡◌, ◌≤◌, ◌<◌, ◌⊎◌, ◌++◌, ℕ, zero, suc, List, [], ◌∷◌, Option, Some, None, length, map, slice_get}
use Rattle.ub_check.specs.Numbers.{AreNew}
use Rattle.ub_check.specs.Placed.{Placed, regions_in}
use Rattle.ub_check.specs.Standing.{IsHeldBy, IsRegionRefused}
use Rattle.ub_check.specs.declared.checking.Told.{Told}
use Rattle.ub_index.specs.Fitting.{IsNotTaken}
use Rattle.ub_index.specs.Index.{NamesFitting, entries_of, first_or, top}
use Rattle.ub_index.specs.declared.fault.IndexFault.{IndexFault}
use Rattle.ub_index.specs.declared.fault.IndexFault.TheVariants.{Page, Store}
use Rattle.ub_region.specs.RegionPage.{region_page}
use Rattle.ub_region.specs.declared.entry.Entry.{Entry}
use Rattle.ub_region.specs.Regions.{rows_of}
use Rattle.ub_store.specs.declared.fault.StoreFault.TheVariants as store
use Rattle.ub_table.specs.Region.{RegionRows, IsRegion}
use Rattle.ub_table.specs.declared.fault.PageFault.TheVariants.{BadCount, BadRow}
use Rattle.ub_table.specs.declared.fault.PageFault.{PageFault}
use Rattle.ub_table.specs.declared.row.Key.{Key}
use Rattle.ub_table.specs.declared.row.Row.{Row}
use Rattle.ub_table.specs.declared.schema.Schema.{Schema}

-- what is checked against: the table's schema and the last address of its space, how many regions are counted, the number that
-- the next row gets, and the pages
pub record Asked : Type 0 where
  pub schema : Schema
  pub last : ℕ
  pub count : ℕ
  pub next : ℕ
  pub pages : List (List ℕ)

abbrev pub asked_for : Schema → ℕ → ℕ → ℕ → List (List ℕ) → Asked
asked_for schema last count next pages = record { schema = schema; last = last; count = count; next = next; pages = pages }

abbrev pub numbers_of : List Row → List ℕ
numbers_of rows = map (λ row. row.number) rows

-- the numbers of the rows of these regions
abbrev pub numbers_in : List Placed → List ℕ
numbers_in placed = numbers_of (rows_of (regions_in placed))

-- a region stands where an entry tells, up to where the next one begins
pub record StandsHere (asked : Asked) (entry : Entry) (end : Option Key) (region : RegionRows) : Type 0 where
  pub is : IsRegion asked.schema region
  pub spelled : slice_get asked.pages entry.page ≡ Some (region_page asked.schema region)
  pub held : IsHeldBy asked.schema.dims entry.first end region

-- after these regions a region is taken where an entry tells: it isn't one more than counted, and its rows' numbers are below
-- the next, and new
pub record TakesRegion (asked : Asked) (entry : Entry) (end : Option Key) (before after : List Placed) : Type 0 where
  pub counted : length before < asked.count
  pub region : RegionRows
  pub stands : StandsHere asked entry end region
  pub new : AreNew asked.next (numbers_in before) (numbers_of region.rows)
  pub after_is : after ≡ before ++ record { page = entry.page; region = region } ∷ []

-- after these regions none is taken there: it is one more than counted, which is told of page 0; or there is no such page, or it
-- is refused; or one of its rows has a number that isn't below the next, or was met before
abbrev pub StopsAtRegion : Asked → Entry → Option Key → List Placed → ℕ → Option PageFault → Type 0
StopsAtRegion asked entry end before n fault =
    ((asked.count ≤ length before) × (n ≡ 0) × (fault ≡ Some BadCount))
    ⊎ ((length before < asked.count) × (n ≡ entry.page)
    × (((fault ≡ None) × (length asked.pages ≤ entry.page))
    ⊎ ((page : List ℕ) × (slice_get asked.pages entry.page ≡ Some page)
    × (of_page : PageFault) × (fault ≡ Some of_page) × IsRegionRefused asked.schema entry.first end page of_page)
    ⊎ ((fault ≡ Some BadRow) × (region : RegionRows) × StandsHere asked entry end region
    × (¬ (AreNew asked.next (numbers_in before) (numbers_of region.rows))))))

-- what is done entry by entry, each up to where the next one begins
abbrev pub Takes : Type 1
Takes = Entry → Option Key → List Placed → List Placed → Type 0

abbrev pub TakesEach : Takes → List Entry → Option Key → List Placed → List Placed → Type 0
TakesEach T [] end before after = after ≡ before
TakesEach T (entry ∷ entries) end before after =
    (between : List Placed) × T entry (first_or entries end) before between × TakesEach T entries end between after

abbrev pub StopsEach : Takes → (Entry → Option Key → List Placed → ℕ → Option PageFault → Type 0) → List Entry → Option Key → List Placed
    → ℕ → Option PageFault → Type 0
StopsEach T S [] end before n fault = ⊥
StopsEach T S (entry ∷ entries) end before n fault =
    S entry (first_or entries end) before n fault
    ⊎ ((between : List Placed) × T entry (first_or entries end) before between × StopsEach T S entries end between n fault)

-- all regions that an entry of this level leads to are taken, one after the other; each page of the index on the way fits
abbrev pub TakesAll : Asked → ℕ → Entry → Option Key → List Placed → List Placed → Type 0
TakesAll asked zero entry end before after = TakesRegion asked entry end before after
TakesAll asked (suc level) entry end before after =
    NamesFitting asked.last asked.pages (suc level) entry end
    × TakesEach (TakesAll asked level) (entries_of asked.pages entry.page) end before after

-- on the way through all that an entry of this level leads to, a check stops at the page n, which isn't there or is refused;
-- all that comes before it is taken
abbrev pub StopsIn : Asked → ℕ → Entry → Option Key → List Placed → ℕ → Option PageFault → Type 0
StopsIn asked zero entry end before n fault = StopsAtRegion asked entry end before n fault
StopsIn asked (suc level) entry end before n fault =
    ((n ≡ entry.page) × IsNotTaken asked.last asked.pages (suc level) entry end fault)
    ⊎ (NamesFitting asked.last asked.pages (suc level) entry end
    × StopsEach (TakesAll asked level) (StopsIn asked level) (entries_of asked.pages entry.page) end before n fault)

-- the check of a table of which this is told takes these regions, from the root of its index on
abbrev pub TakesTable : Asked → Told → List Placed → Type 0
TakesTable asked told after = TakesAll asked told.levels (top told.root) None [] after

-- its pages are well: these regions are taken, as many as are told, with as many rows
pub record AreWell (asked : Asked) (told : Told) (placed : List Placed) : Type 0 where
  pub takes : TakesTable asked told placed
  pub count_is : asked.count ≡ length placed
  pub rows_are : told.rows ≡ length (rows_of (regions_in placed))

-- other regions are taken than are told, or other rows, which is told of page 0
pub record EndsMiscounted (asked : Asked) (told : Told) (n : ℕ) (fault : PageFault) : Type 0 where
  pub after : List Placed
  pub takes : TakesTable asked told after
  pub counts : (length after < asked.count) ⊎ ((length after ≡ asked.count) × (¬ (told.rows ≡ length (rows_of (regions_in after)))))
  pub page_is : n ≡ 0
  pub fault_is : fault ≡ BadCount

-- where the check of a table stops
abbrev pub StopsTable : Asked → Told → ℕ → Option PageFault → Type 0
StopsTable asked told n fault = StopsIn asked told.levels (top told.root) None [] n fault

-- the fault at which the check of a table stops, the first on the walk, or that of the counts at its end; there is no other
abbrev pub IsFirst : Asked → Told → IndexFault → Type 0
IsFirst asked told (Page n fault) = StopsTable asked told n (Some fault) ⊎ EndsMiscounted asked told n fault
IsFirst asked told (Store store.NoPage) = (n : ℕ) × StopsTable asked told n None
IsFirst asked told _ = ⊥
