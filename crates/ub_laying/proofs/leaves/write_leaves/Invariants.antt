use Rattle.std.proofs.Common.{◌≡◌, ◌≤◌, ◌<◌, ◌+◌, ◌-◌, ◌*◌, length, take}
use Rattle.ub_laying.proofs.leaves.write_leaves.Given as goal
use Rattle.ub_laying.specs.Effects.{AddsPages, HasNotFailed}
use Rattle.ub_laying.specs.Laying.{entries_from}
use Rattle.ub_laying.specs.Levels.{Cut}
use Rattle.ub_region.specs.Regions.{firsts_of}
use Rattle.ub_store.specs.Facts.{IsHonest, page_count}

abbrev pub invariant-loop-named : goal.invariant-loop-named
invariant-loop-named g l = record {
  within : l.named ≤ length l.grown;
  long : length l.entries ≡ 170;
  start : l.first ≡ page_count l.fn.pager.store;
  more : l.first ≤ page_count l.pager.store;
  few : 85 * (page_count l.pager.store - l.first) < l.named + 85;
  some : l.named ≤ 170 * (page_count l.pager.store - l.first);
  full : l.named < length l.grown → 85 * (page_count l.pager.store - l.first) ≤ l.named;
  adds : AddsPages l.fn.pager l.pager;
  counts : HasNotFailed l.fn.pager.store l.pager.store;
  cut : IsHonest l.fn.pager.store → Cut l.pager.store.pages 1 l.first (page_count l.pager.store - l.first) (entries_from l.from (take l.named (firsts_of l.grown)));
}

abbrev pub decreases-loop-named : goal.decreases-loop-named
decreases-loop-named g l = length l.grown - l.named
