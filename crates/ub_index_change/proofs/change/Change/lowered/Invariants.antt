use Rattle.std.proofs.Common.{◌≡◌, ◌≤◌}
use Rattle.ub_index_change.proofs.Common.{IsHonest, Keeps, Lowers}
use Rattle.ub_index_change.proofs.change.Change.lowered.Given as goal

abbrev pub invariant-loop-levels : goal.invariant-loop-levels
invariant-loop-levels g l = record {
  low : 1 ≤ l.levels;
  high : l.levels ≤ 16;
  store : l.pager.store ≡ l.initial.pager.store;
  trace : l.pager.trace ≡ l.initial.pager.trace;
  kept : Keeps l.fn.last l.initial.pager l.pager;
  some : 1 ≤ l.root;
  lowers : IsHonest l.initial.pager.store → Lowers l.fn.self.sheets l.initial.pager.store.pages l.fn.self.root l.fn.self.levels l.root l.levels;
}

abbrev pub decreases-loop-levels : goal.decreases-loop-levels
decreases-loop-levels g l = l.levels
