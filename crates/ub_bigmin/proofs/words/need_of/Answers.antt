use Rattle.std.proofs.Common.{arith}
use Rattle.ub_bigmin.proofs.WordFacts.{need_nearest}
use Rattle.ub_bigmin.proofs.words.need_of.Goals as goal

pub returns-clause-need : goal.returns-clause-need
returns-clause-need c = need_nearest c.args.low c.args.high c.args.x c.min-nearest.result _ c.requires (omega (arith, c.max.ensures, c.min-nearest.ensures)) c.differing_bits.ensures.agree
