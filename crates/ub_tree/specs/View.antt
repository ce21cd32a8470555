-- What contracts see of a tree: plain data, in which no type of a store stands.
use Rattle.std.specs.Prelude.{◌+◌, ◌≡◌, ◌≤◌, ◌<◌, ◌^◌, ℕ, Bool, true, false, List, length, map}
use Rattle.ub_region.specs.Regions.{AreRegions, rows_of}
use Rattle.ub_table.specs.declared.row.TheConstants.{MAX_ROW_NUMBER}
use Rattle.ub_zaddr.specs.Address.{last_address}
use Rattle.ub_store.specs.Facts.{StoreFacts, IsHonest}
use Rattle.ub_store.specs.View.{Trace}
use Rattle.ub_table.specs.Region.{RegionRows}
use Rattle.ub_table.specs.declared.row.Row.{Row}
use Rattle.ub_table.specs.declared.schema.Schema.{Schema}
use Rattle.ub_tree.specs.Placed.{Placed, ArePlaced, regions_in, entry_of}
use Rattle.ub_tree.specs.Spans as spans
use Rattle.ub_tree.specs.Stored.{AreSoundPages}
use Rattle.ub_writing.specs.Marks.{HasMark}
use Rattle.ub_tree.specs.Spans.{Region}
use Rattle.ub_tree.specs.Indexed.{Inner, HasIndex, reserved}

-- a tree: its regions in order, how many rows it counts, the next row number, whether it changed since it was opened, the region pages asked for
pub record TreeView : Type 0 where
  pub schema : Schema
  pub placed : List Placed
  pub rows : ℕ
  pub next : ℕ
  pub is_changed : Bool
  pub is_failed : Bool
  pub store : StoreFacts
  pub trace : Trace
  pub inner : Inner

-- the regions of a tree, and its rows, one region after the other
abbrev pub regions : TreeView → List RegionRows
regions t = regions_in t.placed

abbrev pub tree_rows : TreeView → List Row
tree_rows t = rows_of (regions t)

-- how many regions a tree counts: of a sound tree as many as it has
abbrev pub region_count : TreeView → ℕ
region_count t = t.inner.count

-- how many levels the index of a tree has
abbrev pub level_count : TreeView → ℕ
level_count t = t.inner.index.levels

-- the regions with their spans, in order
abbrev pub spans_in : Schema → List Placed → List Region
spans_in schema placed = spans.regions_of (last_address schema.dims) (map entry_of placed)

abbrev pub spans_of : TreeView → List Region
spans_of t = spans_in t.schema t.placed

-- a tree is sound where it hasn't failed, its store is honest, its regions and an index of them stand there, and its counts are theirs; until it is
-- changed its pages are those of a closed table, and from then on the first page marks it as changed
pub record IsSound (t : TreeView) : Type 0 where
  pub working : t.is_failed ≡ false
  pub honest : IsHonest t.store
  pub last_is : t.inner.index.last ≡ last_address t.schema.dims
  pub indexed : HasIndex t.inner.index t.store.pages (map entry_of t.placed)
  pub regions_are : AreRegions t.schema t.next (regions t)
  pub placed_are : ArePlaced t.schema t.placed (reserved t.inner.index t.store.pages) t.store.pages
  pub count_is : region_count t ≡ length t.placed
  pub rows_are : t.rows ≡ length (tree_rows t)
  pub some_next : 1 ≤ t.next
  pub last_next : t.next ≤ MAX_ROW_NUMBER + 1
  pub few : length t.placed < 2 ^ 32
  pub closed : t.is_changed ≡ false → AreSoundPages t.store.pages t.schema t.placed t.next
  pub marked : t.is_changed ≡ true → HasMark t.schema t.store.pages

-- what a call that changes no region leaves: the regions with their pages, the rows and the next number
pub record KeepsRegions (old new : TreeView) : Type 0 where
  pub schema : new.schema ≡ old.schema
  pub placed : new.placed ≡ old.placed
  pub rows : new.rows ≡ old.rows
  pub next : new.next ≡ old.next

-- no region page was asked for in between
abbrev pub KeepsTrace : TreeView → TreeView → Type 0
KeepsTrace old new = new.trace ≡ old.trace
