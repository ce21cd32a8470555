use Rattle.std.proofs.Common.{◌≡◌, ◌≤◌, ◌<◌, ◌+◌, ◌-◌, ◌*◌}
use Rattle.ub_upgrade.proofs.Common.{AddsPages, HasNotFailed, page_count}
use Rattle.ub_upgrade.proofs.LeafFacts.{IsHalfWay}
use Rattle.ub_upgrade.proofs.building.write_leaves.Given as goal

abbrev pub invariant-loop-place : goal.invariant-loop-place
invariant-loop-place g l = record {
  within : l.place.met ≤ l.heading.regions;
  start : l.first ≡ page_count l.fn.pager.store;
  more : l.first ≤ page_count l.pager.store;
  few : 170 * (page_count l.pager.store - l.first) < l.place.met + 170;
  some : l.place.met ≤ 170 * (page_count l.pager.store - l.first);
  full : l.place.met < l.heading.regions → l.place.met ≡ 170 * (page_count l.pager.store - l.first);
  old : g.O.PageStore.facts l.old ≡ g.O.PageStore.facts l.fn.old;
  adds : AddsPages l.fn.pager l.pager;
  counts : HasNotFailed l.fn.pager.store l.pager.store;
  way : IsHalfWay (g.O.PageStore.facts l.fn.old) l.fn.pager.store l.heading l.pager.store.pages l.first (page_count l.pager.store - l.first) l.place;
}

abbrev pub decreases-loop-place : goal.decreases-loop-place
decreases-loop-place g l = l.heading.regions - l.place.met
