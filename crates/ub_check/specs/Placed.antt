-- Regions on pages.
use Rattle.std.specs.Prelude.{ℕ, List, [], map, slice_index_or}
use Rattle.ub_region.specs.RegionPage.{region_on}
use Rattle.ub_region.specs.declared.entry.Entry.{Entry}
use Rattle.ub_table.specs.Region.{RegionRows}
use Rattle.ub_table.specs.declared.schema.Schema.{Schema}

-- a region, and the number of its page
pub record Placed : Type 0 where
  pub page : ℕ
  pub region : RegionRows

-- the regions that begin at these keys, each with the rows that its page tells of
abbrev pub placed_of : Schema → List (List ℕ) → List Entry → List Placed
placed_of schema pages entries =
    map (λ e. record { page = e.page; region = record { first = e.first; rows = (region_on schema (slice_index_or pages e.page [])).rows } }) entries

abbrev pub regions_in : List Placed → List RegionRows
regions_in placed = map (λ p. p.region) placed
