use Rattle.std.proofs.Common.{◌≡◌, take, length}
use Rattle.ub_store.specs.Facts.{IsHonest}
use Rattle.ub_laying.specs.Effects.{AddsPages, HasNotFailed}
use Rattle.ub_laying.specs.Levels.{names_of}
use Rattle.ub_laying.proofs.adding.read_names.Given as goal

abbrev pub invariant-loop-i : goal.invariant-loop-i
invariant-loop-i g l = record {
  long : length l.entries ≡ 170;
  adds : AddsPages l.fn.pager l.pager;
  counts : HasNotFailed l.fn.pager.store l.pager.store;
  same : l.pager.store.pages ≡ l.fn.pager.store.pages;
  names : IsHonest l.fn.pager.store → take l.i l.entries ≡ names_of l.fn.pager.store.pages l.from l.i;
}
