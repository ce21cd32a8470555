-- How a region that was read lies in memory.
use Rattle.std.specs.Prelude.{◌≡◌, ◌<◌, ◌≤◌, ℕ, List, [], length, map, slice_index_or}
use Rattle.std.specs.List.{range_with_len}
use Rattle.ub_region.specs.Columns.{row_in}
use Rattle.ub_region.specs.RegionPage.{RegionView}
use Rattle.ub_region.specs.declared.region_page.RegionPage.TheInside.{Inside}
use Rattle.ub_table.specs.declared.row.Row.{Row}

-- the rows in its columns
abbrev pub held_rows : Inside → List Row
held_rows p = map (row_in p.numbers p.dims p.measures) (range_with_len 0 p.len)

abbrev pub held : Inside → RegionView
held p = record { dims = p.shape; region = record { first = p.first; rows = held_rows p } }

-- no more rows than a column has places
pub record AreColumns (p : Inside) : Type 0 where
  pub few : p.len ≤ 64
  pub numbers_long : length p.numbers ≡ 64
  pub dims_long : (d : ℕ) → d < 4 → length (slice_index_or p.dims d []) ≡ 64
