use Rattle.std.proofs.Common.{nat_le, arith}
use Rattle.std.proofs.lemmas.Simd.{bitmask_splat}
use Rattle.ub_region.proofs.masks.at_most.Goals as goal
use mir.Syntax.{w32}

pub returns : goal.returns
returns c = bitmask_splat w32 nat_le c.args.column 8 c.args.hi c.fits-column.0 (omega arith)
