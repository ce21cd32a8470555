use Rattle.std.proofs.Common.{◌≡◌, ◌≤◌, ◌+◌, ◌^◌, ◌++◌, length}
use Rattle.ub_overlay.specs.Changes.{changes_of, held_from}
use Rattle.ub_overlay.proofs.changes.Changes.into_list.Given as goal

-- the pages that are listed, and those in the slots that are left, are all
abbrev pub invariant-loop-slot : goal.invariant-loop-slot
invariant-loop-slot l = record {
  held : changes_of l.list.items ++ held_from l.number l.slot-iterator.rest.items ≡ l.fn.self;
  few : l.number + length l.slot-iterator.rest.items ≤ 2 ^ 32;
}
