-- What stands on the pages of regions once a row was put into any tree, or taken out of it, over an honest store.
use Rattle.std.specs.Prelude.{◌≡◌, ◌<◌, ◌+◌, ◌++◌, ◌⊎◌, ℕ, List, Option, Some, length, slice_get}
use Rattle.ub_tree.specs.Common.{Halves, insert_row, IsHonest, Key, key_before, key_of, page_count, Region, region_count, region_page, RegionRows}
use Rattle.ub_tree.specs.Common.{remove_row, Row, split, TreeView}
use Rattle.ub_tree.specs.Holding.{FallsInto}

-- the page of this number spells the region of these rows that begins with this key
abbrev pub Spells : TreeView → ℕ → Key → List Row → Type 0
Spells t page first rows = slice_get t.store.pages page ≡ Some (region_page t.schema (record { first = first; rows = rows }))

-- two pages spell the halves of a region that begins with this key
abbrev pub SpellsHalves : TreeView → ℕ → ℕ → Key → Halves → Type 0
SpellsHalves t page other first halves = Spells t page first halves.left × Spells t other halves.first halves.right

-- a row was put into the region that its key falls into, on the same page; or where that was full, its halves stand there and on a new page
pub record PutsRow (row : Row) (old new : TreeView) : Type 0 where
  pub alone : (page : ℕ) (region : RegionRows) → IsHonest old.store → FallsInto old (key_of old.schema.dims row) page region → length region.rows < old.schema.page_rows
      → FallsInto new (key_of old.schema.dims row) page (record { first = region.first; rows = insert_row old.schema.dims row region.rows })
  pub halved : (page : ℕ) (region : RegionRows) → IsHonest old.store → FallsInto old (key_of old.schema.dims row) page region → length region.rows ≡ old.schema.page_rows
      → SpellsHalves new page (page_count old.store) region.first (split old.schema.dims old.schema.page_rows (insert_row old.schema.dims row region.rows))

-- there is such a key, and it falls into this region
abbrev pub FallsAt : TreeView → Option Key → ℕ → RegionRows → Type 0
FallsAt t sought page region = (key : Key) × (sought ≡ Some key) × FallsInto t key page region

-- these rows are left of a region: on its page, alone or before those of the next region; or behind those of the one before, on that one's page
abbrev pub LeavesRows : Region → List Row → TreeView → TreeView → Type 0
LeavesRows span rows old new =
    ((region_count new ≡ region_count old) × Spells new span.page span.first rows)
    ⊎ ((region_count old ≡ region_count new + 1)
    × (page : ℕ) × (other : RegionRows)
    × ((FallsAt old span.next page other × Spells new span.page span.first (rows ++ other.rows))
    ⊎ (FallsAt old (key_before span.first.z span.first.number) page other × Spells new page other.first (other.rows ++ rows))))

-- a row was taken out of the region that its key falls into: all its other rows stand where `LeavesRows` says
abbrev pub TakesRow : Key → TreeView → TreeView → Type 0
TakesRow key old new =
    (page : ℕ) (region : RegionRows) → IsHonest old.store → (into : FallsInto old key page region)
    → LeavesRows into.span (remove_row old.schema.dims key region.rows) old new
