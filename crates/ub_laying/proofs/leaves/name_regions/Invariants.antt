use Rattle.std.proofs.Common.{◌≡◌, ◌+◌, drop, length, take}
use Rattle.ub_laying.proofs.leaves.name_regions.Given as goal
use Rattle.ub_laying.specs.Laying.{entries_from}
use Rattle.ub_region.specs.Regions.{firsts_of}

abbrev pub invariant-loop-i : goal.invariant-loop-i
invariant-loop-i l = record {
  long : length l.entries ≡ 170;
  names : take l.i l.entries ≡ entries_from (l.from + l.named) (take l.i (drop l.named (firsts_of l.grown)));
}
