use Rattle.std.proofs.Common.{refl, arith, ap, ◌∙◌, ◌≡◌, ℕ, List}
use Rattle.ub_zaddr.specs.Address.{address}
use Rattle.ub_bigmin.proofs.NextFacts.{past_last, at_itself, none_below, next_below}
use Rattle.ub_bigmin.proofs.laws.prev_by_words.Goals as goal

pub returns-in_default-clause-prev : goal.returns-in_default-clause-prev
returns-in_default-clause-prev c =
    let is : c.interleave.result ≡ address c.args.zbox.now.hi = c.interleave.ensures.address ∙ ap (λ (p : List ℕ). address p) c.hi.ensures.hi in
    rw is (past_last c.shape-shape.result c.args.zbox.now c.args.z c.shape-shape.ensures.corners (c.in_default.ensures.refused.0 refl)).0

pub returns-then-needs-eq0-clause-prev : goal.returns-then-needs-eq0-clause-prev
returns-then-needs-eq0-clause-prev c = (at_itself c.shape-shape.result c.args.zbox.now c.in-Ok.point c.args.z _ _ _ c.shape-shape.ensures.corners (c.in-Ok.ensures.point.0, c.values-coordinates.ensures.words) c.in-Ok.ensures.point.1 c.find_needs-needs.ensures.needs (omega (arith, c.if-needs-eq0.true))).0

pub returns-in_default-lowest_jump-clause-prev : goal.returns-in_default-lowest_jump-clause-prev
returns-in_default-lowest_jump-clause-prev c = none_below c.shape-shape.result c.args.zbox.now c.in-Ok.point c.args.z _ _ _ c.shape-shape.ensures.corners (c.in-Ok.ensures.point.0, c.values-coordinates.ensures.words) c.in-Ok.ensures.point.1 c.find_needs-needs.ensures.needs (λ e. omega (arith, c.if-needs-eq0.false)) c.in_default-lowest_jump.ensures.jump

pub returns-clause-prev : goal.returns-clause-prev
returns-clause-prev c = next_below c.shape-shape.result c.args.zbox.now c.in-Ok.point c.args.z _ _ _ c.shape-shape.ensures.corners (c.in-Ok.ensures.point.0, c.values-coordinates.ensures.words) c.in-Ok.ensures.point.1 c.find_needs-needs.ensures.needs (λ e. omega (arith, c.if-needs-eq0.false)) _ _ _ _ c.interleave-2.ensures.address c.in-Some.ensures.jump c.landing-landed.ensures.point

pub find_needs-needs-requires-clause-shape : goal.find_needs-needs-requires-clause-shape
find_needs-needs-requires-clause-shape c = c.in-Ok.ensures.point.0 ∙ c.shape-shape.ensures.shape

pub lowest_jump-requires-clause-shape : goal.lowest_jump-requires-clause-shape
lowest_jump-requires-clause-shape c = c.in-Ok.ensures.point.0 ∙ c.shape-shape.ensures.shape

pub landing-landed-requires-clause-shape : goal.landing-landed-requires-clause-shape
landing-landed-requires-clause-shape c = c.in-Ok.ensures.point.0 ∙ c.shape-shape.ensures.shape

pub lowest_jump-requires-clause-needs : goal.lowest_jump-requires-clause-needs
lowest_jump-requires-clause-needs c = c.find_needs-needs.ensures.needs

pub landing-landed-requires-clause-jump : goal.landing-landed-requires-clause-jump
landing-landed-requires-clause-jump c = c.in-Some.ensures.jump.1

pub interleave-requires-2 : goal.interleave-requires-2
interleave-requires-2 c = c.landing-landed.ensures.point.0 ∙ c.in-Ok.ensures.point.0
