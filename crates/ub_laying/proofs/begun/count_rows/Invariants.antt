use Rattle.std.proofs.Common.{◌≡◌, length, take}
use Rattle.ub_region.specs.Regions.{rows_of}
use Rattle.ub_laying.proofs.begun.count_rows.Given as goal

abbrev pub invariant-loop-i : goal.invariant-loop-i
invariant-loop-i l = l.count ≡ length (rows_of (take l.i l.grown))
