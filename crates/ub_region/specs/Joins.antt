-- What a region's new rows make of a list of regions, where it is joined with the one after it or the one before.
use Rattle.std.specs.Prelude.{◌≡◌, ◌-◌, ℕ, Bool, false, if◌then◌else◌, List, [], ◌∷◌, drop}
use Rattle.ub_region.specs.Regions.{change_from, fits_next, join_before, join_first}
use Rattle.ub_table.specs.Region.{RegionRows}
use Rattle.ub_table.specs.declared.row.Row.{Row}

-- the first region with these rows in place of its own, and the next one taken out where it is joined
abbrev pub put_first : Bool → List Row → List RegionRows → List RegionRows
put_first joined rows [] = []
put_first joined rows (region ∷ regions) = record { first = region.first; rows = rows } ∷ (if joined then drop 1 regions else regions)

-- the region at an index with these rows
abbrev pub put_rows : ℕ → Bool → List Row → List RegionRows → List RegionRows
put_rows index joined rows regions = change_from index (put_first joined rows) regions

-- of the region at an index with the old rows: whether those of the next one fit on a page with them, and the new rows are
-- then both
pub record JoinsNext (c index : ℕ) (old new : List Row) (fit : Bool) (regions : List RegionRows) : Type 0 where
  pub fits : fit ≡ fits_next c (drop index (put_rows index false old regions))
  pub rows : put_rows index fit new regions ≡ (if fit then change_from index join_first (put_rows index false old regions) else put_rows index false old regions)

-- the same of the region before
abbrev pub JoinsBefore : ℕ → ℕ → List Row → List Row → Bool → List RegionRows → Type 0
JoinsBefore c index old new fit regions = put_rows (if fit then index - 1 else index) fit new regions ≡ join_before c index (put_rows index false old regions)
