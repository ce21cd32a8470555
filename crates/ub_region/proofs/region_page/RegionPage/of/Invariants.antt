use Rattle.std.proofs.Common.{◌≡◌, take}
use Rattle.ub_region.proofs.region_page.RegionPage.of.Given as goal

abbrev pub invariant-loop-row : goal.invariant-loop-row
invariant-loop-row l = l.region ≡ record { dims = l.fn.shape; region = record { first = l.fn.first; rows = take l.row-index l.rows } }
