use Rattle.std.proofs.Common.{◌+◌}
use Rattle.acceptance_parts.proofs.growing.grow_points.Given as goal
use Rattle.ub_growing.specs.Growing.{AscendWithin}

abbrev pub invariant-loop-i : goal.invariant-loop-i
invariant-loop-i l = AscendWithin 0 (l.i + 1) l.rows.items
