use Rattle.std.proofs.Common.{◌≡◌, ◌+◌}
use Rattle.library_examples.proofs.trips.put.Given as goal
use Rattle.ub_tree.specs.View.{IsSound}

abbrev pub invariant-loop-trip : goal.invariant-loop-trip
invariant-loop-trip g l = record {
  schema : l.tree.schema ≡ l.initial.tree.schema;
  sound : IsSound l.initial.tree → IsSound l.tree;
  rows : IsSound l.initial.tree → l.tree.rows ≡ l.initial.tree.rows + l.trip-index;
}
