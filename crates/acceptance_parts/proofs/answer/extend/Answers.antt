use Rattle.std.proofs.Common.{arith}
use Rattle.acceptance_parts.proofs.answer.extend.Goals as goal

pub extend-requires : goal.extend-requires
extend-requires c = record {
  wide = record { width = 2; some = omega arith; first_wide = c.requires.cells; second_wide = c.requires.more };
}
