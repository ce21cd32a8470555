use Rattle.ub_zaddr.proofs.BelowFacts.{higher_test}
use Rattle.ub_zaddr.proofs.below.is_higher.Goals as goal

pub returns : goal.returns
returns c = higher_test c.args.x c.args.y c.ranges.x.fits
