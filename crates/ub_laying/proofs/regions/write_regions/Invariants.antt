use Rattle.std.proofs.Common.{◌≡◌, ◌+◌, ◌++◌, map, take}
use Rattle.ub_laying.proofs.regions.write_regions.Given as goal
use Rattle.ub_laying.specs.Effects.{AddsPages, HasNotFailed}
use Rattle.ub_region.specs.RegionPage.{region_page}
use Rattle.ub_store.specs.Facts.{IsHonest, page_count}

abbrev pub invariant-loop-i : goal.invariant-loop-i
invariant-loop-i g l = record {
  count : page_count l.pager.store ≡ page_count l.fn.pager.store + l.i;
  adds : AddsPages l.fn.pager l.pager;
  counts : HasNotFailed l.fn.pager.store l.pager.store;
  pages : IsHonest l.fn.pager.store → l.pager.store.pages ≡ l.fn.pager.store.pages ++ map (region_page l.schema) (take l.i l.grown);
}
