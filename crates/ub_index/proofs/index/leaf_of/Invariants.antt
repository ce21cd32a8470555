use Rattle.std.proofs.Common.{◌≡◌, ◌≤◌}
use Rattle.ub_index.proofs.Common.{AreChecked, HoldsLeaf, index_view, IsHonest, LeadsDown}
use Rattle.ub_index.proofs.HeldFacts.{Keeps}
use Rattle.ub_index.proofs.index.leaf_of.Given as goal

abbrev pub invariant-loop-level : goal.invariant-loop-level
invariant-loop-level g l = record {
  some : 1 ≤ l.level;
  store : l.pager.store ≡ l.initial.pager.store;
  trace : l.pager.trace ≡ l.initial.pager.trace;
  holds : HoldsLeaf l.fn.key l.leaf;
  kept : Keeps l.fn.last l.initial.pager l.pager;
  down : IsHonest l.initial.pager.store → AreChecked l.fn.last l.initial.pager → LeadsDown (index_view l.fn.root l.fn.levels l.fn.last) l.initial.pager.store l.fn.key l.level l.leaf;
}

abbrev pub decreases-loop-level : goal.decreases-loop-level
decreases-loop-level g l = l.level
