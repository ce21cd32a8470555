-- The tree that a CSV text is loaded into.
use Rattle.std.specs.Prelude.{◌≡◌, ◌≤◌, ◌+◌, ℕ, List, [], ◌∷◌, length}
use Rattle.ub_load.specs.LoadedTable.{IsLoaded}
use Rattle.ub_region.specs.Regions.{AreTableRows, insert_all}
use Rattle.ub_table.specs.Keys.{origin}
use Rattle.ub_table.specs.Region.{RegionRows}
use Rattle.ub_table.specs.declared.axes.Axes.{Axes}
use Rattle.ub_table.specs.declared.row.Row.{Row}
use Rattle.ub_tree.specs.View.{TreeView, IsSound, region_count, regions}

-- the regions of a table whose rows were put in one after the other
abbrev pub loaded_regions : ℕ → ℕ → List Row → List RegionRows
loaded_regions dims c rows = insert_all dims c rows (record { first = origin; rows = [] } ∷ [])

-- the tree is sound, and its table is the one that the text holds; it has no more regions than the first one and one for each row
pub record IsLoadedTree (text : List ℕ) (axes : Axes) (page_rows : ℕ) (name : List ℕ) (t : TreeView) : Type 0 where
  pub rows : List Row
  pub loaded : IsLoaded text axes page_rows name t.schema rows
  pub sound : IsSound t
  pub regions_are : regions t ≡ loaded_regions axes.dims page_rows rows
  pub table : AreTableRows (regions t) rows
  pub next : t.next ≡ length rows + 1
  pub few : region_count t ≤ t.next
