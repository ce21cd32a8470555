use Rattle.std.proofs.Common.{arith}
use Rattle.ub_region.proofs.LaneFacts.{IsMaskOf-first}
use Rattle.ub_region.proofs.masks.mask_of.Goals as goal

pub returns : goal.returns
returns c = IsMaskOf-first c.args.lo c.args.hi c.args.len c.args.column.now c.mask_of_all.result c.places_below.result c.places_below.ensures (let all = c.told-column in let few = c.requires in omega arith) c.mask_of_all.ensures
