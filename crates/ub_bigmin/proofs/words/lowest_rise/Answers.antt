use Rattle.std.proofs.Common.{arith, ◌≡◌, ◌-◌, max}
use Rattle.ub_bigmin.proofs.WordFacts.{rise_none, rise_some}
use Rattle.ub_bigmin.proofs.words.lowest_rise.Goals as goal

pub returns-then-differing_bits-from : goal.returns-then-differing_bits-from
returns-then-differing_bits-from c =
    let is : c.max-from.result ≡ max c.args.floor (c.need_of.result - 1) = omega (arith, c.max-from.ensures, c.saturating_sub.ensures) in
    rise_none c.args.low c.args.high c.args.x c.args.floor _ c.max-from.result c.max-end.result c.differing_bits.result c.requires c.need_of.ensures.need is
    c.max-end.ensures c.differing_bits.ensures.agree (omega (arith, c.if-differing_bits-from.true))

pub returns : goal.returns
returns c =
    let is : c.max-from.result ≡ max c.args.floor (c.need_of.result - 1) = omega (arith, c.max-from.ensures, c.saturating_sub.ensures) in
    let e = c.lowest_one.ensures in
    rise_some c.args.low c.args.high c.args.x c.args.floor _ c.max-from.result c.max-end.result c.differing_bits.result c.requires c.need_of.ensures.need is _
    c.max-end.ensures c.ranges.high.fits c.differing_bits.ensures.within c.differing_bits.ensures.agree
    (omega (arith, c.if-differing_bits-from.false)) e.from e.one e.lowest
