use Rattle.std.proofs.Common.{refl}
use Rattle.ub_bigmin.proofs.WordFacts.{lowest_one_is, lowest_one_first}
use Rattle.ub_bigmin.proofs.words.lowest_one.Goals as goal

pub returns-clause-one : goal.returns-clause-one
returns-clause-one c = lowest_one_is c.args.x c.args.from _ c.ranges.x.fits refl

pub returns-clause-lowest : goal.returns-clause-lowest
returns-clause-lowest c = λ k. lowest_one_first c.args.x c.args.from _ k c.ranges.x.fits refl
