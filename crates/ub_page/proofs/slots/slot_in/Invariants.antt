use Rattle.std.proofs.Common.{◌-◌, ◌≤◌, ◌<◌}
use Rattle.ub_page.specs.Slots.{first_in}
use Rattle.ub_page.proofs.slots.slot_in.Given as goal
use Rattle.ub_table.specs.Keys.{IsBefore}

abbrev pub invariant-loop-low : goal.invariant-loop-low
invariant-loop-low l = record {
  some : 1 ≤ l.low;
  order : l.low ≤ l.high;
  within : l.high ≤ l.count;
  begun : 2 ≤ l.low → ¬ (IsBefore l.key (first_in (l.low - 1) l.page));
  next : l.high < l.count → IsBefore l.key (first_in l.high l.page);
}

abbrev pub decreases-loop-low : goal.decreases-loop-low
decreases-loop-low l = l.high - l.low
