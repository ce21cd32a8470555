-- The cells of the groups so far.
use Rattle.std.proofs.Common.{◌≡◌, ◌*◌, length, take}
use Rattle.std.specs.List.{flat_map}
use Rattle.ub_answer.proofs.groups.cells_of_entries.Given as goal

abbrev pub invariant-loop-entry : goal.invariant-loop-entry
invariant-loop-entry l = record {
  count : length l.cells.items ≡ l.entry-index * length l.items;
  cells : l.cells.items ≡ flat_map (λ e. take (length l.items) e.1.now) (take l.entry-index l.entries);
}
