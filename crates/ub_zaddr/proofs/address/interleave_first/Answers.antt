use Rattle.std.proofs.Common.{◌≡◌, arith, ◌∙◌}
use Rattle.ub_zaddr.proofs.TurnFacts.{places_one, places_two, places_three, places_four}
use Rattle.ub_zaddr.proofs.address.interleave_first.Goals as goal

pub returns-in-1 : goal.returns-in-1
returns-in-1 g c = rw c.in-1.is (c.from.ensures ∙ places_one c.args.places.now c.told-places (c.fits-places 0))

pub returns-in-2 : goal.returns-in-2
returns-in-2 g c = rw c.in-2.is (c.from-in-2.ensures ∙ c.two_in_turn.ensures ∙ places_two c.args.places.now c.told-places)

pub returns-in-3 : goal.returns-in-3
returns-in-3 g c = rw c.in-3.is (c.three_in_turn.ensures ∙ places_three c.args.places.now c.told-places)

pub returns-in_default : goal.returns-in_default
returns-in_default g c =
    let four : g.row.D ≡ 4 = omega (arith, c.in_default) in
    rw four (c.four_in_turn.ensures ∙ places_four c.args.places.now c.told-places)
