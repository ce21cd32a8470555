use Rattle.std.proofs.Common.{◌≡◌, ◌++◌, take, drop}
use Rattle.ub_region.proofs.region_page.RegionPage.find.Given as goal
use Rattle.ub_region.specs.Rows.{has_key, remove_row}

abbrev pub invariant-loop-i : goal.invariant-loop-i
invariant-loop-i l = record {
  found : has_key l.self.dims l.key l.self.region.rows ≡ has_key l.self.dims l.key (drop l.i l.self.region.rows);
  rest : remove_row l.self.dims l.key l.self.region.rows ≡ take l.i l.self.region.rows ++ remove_row l.self.dims l.key (drop l.i l.self.region.rows);
}
