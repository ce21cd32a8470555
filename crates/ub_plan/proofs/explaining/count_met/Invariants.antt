use Rattle.std.proofs.Common.{◌≡◌, List, None, length, min}
use Rattle.ub_tree.proofs.Laws.{left_after}
use Rattle.ub_tree.specs.Spans.{Region}
use Rattle.ub_tree.specs.Told.{AreFirst}
use Rattle.ub_plan.proofs.explaining.count_met.Given as goal

abbrev pub invariant-loop : goal.invariant-loop
invariant-loop g l = record {
  same : l.tree ≡ l.initial.tree;
  found : (found : List Region) × AreFirst l.boxes l.initial.tree None found l.met.last × (l.met.count ≡ min (length found) 18446744073709551615);
}

abbrev pub decreases-loop : goal.decreases-loop
decreases-loop g l = left_after l.initial.tree l.met.last
