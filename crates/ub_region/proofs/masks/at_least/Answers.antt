use Rattle.std.proofs.Common.{nat_le, arith}
use Rattle.ub_region.proofs.LaneFacts.{bitmask_splat_left}
use Rattle.ub_region.proofs.masks.at_least.Goals as goal
use mir.Syntax.{w32}

pub returns : goal.returns
returns c = bitmask_splat_left w32 nat_le c.args.column 8 c.args.lo c.fits-column.0 (omega arith)
