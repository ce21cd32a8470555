use Rattle.std.proofs.Common.{◌≡◌, ◌≤◌, ◌+◌, ◌-◌, max, length}
use Rattle.ub_overlay.specs.Changes.{held_from}
use Rattle.ub_overlay.proofs.changes.reach.Given as goal

-- what is held is the same, and there aren't more slots than are asked for, but where there were
abbrev pub invariant-loop-slots : goal.invariant-loop-slots
invariant-loop-slots l = record {
  same : l.at ≡ l.fn.at;
  few : length l.slots.items ≤ max (length l.fn.slots.items) (l.at + 1);
  held : held_from 0 l.slots.items ≡ held_from 0 l.fn.slots.items;
}

abbrev pub decreases-loop-slots : goal.decreases-loop-slots
decreases-loop-slots l = (l.at + 1) - length l.slots.items
