use Rattle.std.proofs.Common.{◌≤◌, ◌-◌, length, take}
use Rattle.library_examples.proofs.sorted.addresses_in.Given as goal
use Rattle.library_examples.specs.Sorted.{AreThoseIn}

-- of the addresses before the place those in the box were found
abbrev pub invariant-loop-place : goal.invariant-loop-place
invariant-loop-place l = record {
  within : l.place ≤ length l.sorted;
  those : AreThoseIn l.zbox (take l.place l.sorted) l.found.items;
}

abbrev pub decreases-loop-place : goal.decreases-loop-place
decreases-loop-place l = length l.sorted - l.place
