use Rattle.std.proofs.Common.{◌≡◌, ◌≤◌, ◌<◌, ◌+◌, ◌-◌, ◌*◌}
use Rattle.ub_store.specs.Facts.{IsHonest, page_count}
use Rattle.ub_laying.specs.Effects.{AddsPages, HasNotFailed}
use Rattle.ub_laying.specs.Levels.{Cut, names_of}
use Rattle.ub_laying.proofs.levels.write_level.Given as goal

abbrev pub invariant-loop-named : goal.invariant-loop-named
invariant-loop-named g l = record {
  within : l.named ≤ l.low.count;
  start : l.first ≡ page_count l.fn.pager.store;
  more : l.first ≤ page_count l.pager.store;
  few : 170 * (page_count l.pager.store - l.first) < l.named + 170;
  some : l.named ≤ 170 * (page_count l.pager.store - l.first);
  full : l.named < l.low.count → l.named ≡ 170 * (page_count l.pager.store - l.first);
  adds : AddsPages l.fn.pager l.pager;
  counts : HasNotFailed l.fn.pager.store l.pager.store;
  cut : IsHonest l.fn.pager.store → Cut l.pager.store.pages l.level l.first (page_count l.pager.store - l.first) (names_of l.fn.pager.store.pages l.low.first l.named);
}

abbrev pub decreases-loop-named : goal.decreases-loop-named
decreases-loop-named g l = l.low.count - l.named
