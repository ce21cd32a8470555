-- Regions on pages, as crates below the tree have them, and those of a tree.
use Rattle.std.specs.Prelude.{◌≡◌, ◌<◌, ℕ, List, ◌++◌, Some, length, map, slice_get, All}
use Rattle.std.specs.List.{IsDistinct}
use Rattle.std.specs.Bool.{nat_eq}
use Rattle.ub_region.specs.RegionPage.{region_page}
use Rattle.ub_region.specs.declared.entry.Entry.{Entry}
use Rattle.ub_table.specs.declared.schema.Schema.{Schema}
pub use Rattle.ub_check.specs.Placed.{Placed, placed_of, regions_in}

-- where each region begins, and its page
abbrev pub entry_of : Placed → Entry
entry_of p = record { first = p.region.first; page = p.page }

-- each region stands on a page of its own that spells it; the pages that hold none are others
pub record ArePlaced (schema : Schema) (placed : List Placed) (reserved : List ℕ) (pages : List (List ℕ)) : Type 0 where
  pub spelled : All (λ p. slice_get pages p.page ≡ Some (region_page schema p.region)) placed
  pub own : IsDistinct nat_eq (reserved ++ map (λ p. p.page) placed)
  pub within : All (λ n. n < length pages) reserved
