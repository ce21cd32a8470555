use Rattle.std.proofs.Common.{arith, bit_xor}
use Rattle.std.proofs.lemmas.Nat.{leading_le}
use Rattle.ub_bigmin.proofs.WordFacts.{agree_bits}
use Rattle.ub_bigmin.proofs.words.differing_bits.Goals as goal

pub returns-clause-agree : goal.returns-clause-agree
returns-clause-agree c = λ f. let le = leading_le 32 (bit_xor c.args.a c.args.b) in agree_bits c.args.a c.args.b _ f c.ranges.a.fits c.ranges.b.fits (omega arith)
