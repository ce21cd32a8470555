use Rattle.std.proofs.Common.{◌≡◌, ◌≤◌, ◌<◌, ◌+◌, ◌-◌, ◌^◌, ℕ, List}
use Rattle.ub_region.specs.declared.entry.Entry.{Entry}
use Rattle.ub_store.specs.Facts.{IsHonest, page_count}
use Rattle.ub_laying.specs.Effects.{AddsPages, HasNotFailed}
use Rattle.ub_laying.specs.Levels.{IsLast, IsLevel, most_pages, names_of, pages_above}
use Rattle.ub_laying.proofs.levels.write_levels.Given as goal

abbrev pub invariant-loop-low : goal.invariant-loop-low
invariant-loop-low g l = record {
  last : IsLast l.pager.store l.low;
  some : 1 ≤ l.low.count;
  first : 1 ≤ l.low.first;
  from : l.fn.leaves.first ≤ l.low.first;
  low : 1 ≤ l.level;
  high : l.level ≤ 5;
  few : l.low.count ≤ most_pages l.level;
  count : page_count l.pager.store + pages_above (5 - l.level) l.low.count ≡ page_count l.fn.pager.store + pages_above 4 l.fn.leaves.count;
  adds : AddsPages l.fn.pager l.pager;
  counts : HasNotFailed l.fn.pager.store l.pager.store;
  raised : IsHonest l.fn.pager.store → (last from : ℕ) (entries : List Entry) → last < 2 ^ 128 → from ≤ l.fn.leaves.first
      → IsLevel last l.fn.pager.store.pages from (l.fn.leaves.first + l.fn.leaves.count) 1 (names_of l.fn.pager.store.pages l.fn.leaves.first l.fn.leaves.count) entries
      → IsLevel last l.pager.store.pages from (page_count l.pager.store) l.level (names_of l.pager.store.pages l.low.first l.low.count) entries;
}

abbrev pub decreases-loop-low : goal.decreases-loop-low
decreases-loop-low g l = 5 - l.level
