use Rattle.std.proofs.Common.{refl, arith, ◌∙◌}
use Rattle.ub_bigmin.proofs.NextFacts.{past_last, at_itself, none_above, next_above}
use Rattle.ub_bigmin.proofs.laws.next_by_words.Goals as goal

pub returns-in_default-clause-next : goal.returns-in_default-clause-next
returns-in_default-clause-next c = (past_last c.shape-shape.result c.args.zbox.now c.args.z c.shape-shape.ensures.corners (c.in_default.ensures.refused.0 refl)).1

pub returns-then-needs-eq0-clause-next : goal.returns-then-needs-eq0-clause-next
returns-then-needs-eq0-clause-next c = (at_itself c.shape-shape.result c.args.zbox.now c.in-Ok.point c.args.z _ _ _ c.shape-shape.ensures.corners (c.in-Ok.ensures.point.0, c.values-coordinates.ensures.words) c.in-Ok.ensures.point.1 c.find_needs-needs.ensures.needs (omega (arith, c.if-needs-eq0.true))).1

pub returns-in_default-lowest_jump-clause-next : goal.returns-in_default-lowest_jump-clause-next
returns-in_default-lowest_jump-clause-next c = none_above c.shape-shape.result c.args.zbox.now c.in-Ok.point c.args.z _ _ _ c.shape-shape.ensures.corners (c.in-Ok.ensures.point.0, c.values-coordinates.ensures.words) c.in-Ok.ensures.point.1 c.find_needs-needs.ensures.needs (λ e. omega (arith, c.if-needs-eq0.false)) c.in_default-lowest_jump.ensures.jump

pub returns-clause-next : goal.returns-clause-next
returns-clause-next c = next_above c.shape-shape.result c.args.zbox.now c.in-Ok.point c.args.z _ _ _ c.shape-shape.ensures.corners (c.in-Ok.ensures.point.0, c.values-coordinates.ensures.words) c.in-Ok.ensures.point.1 c.find_needs-needs.ensures.needs (λ e. omega (arith, c.if-needs-eq0.false)) _ _ _ _ c.interleave.ensures.address c.in-Some.ensures.jump c.landing-landed.ensures.point

pub find_needs-needs-requires-clause-shape : goal.find_needs-needs-requires-clause-shape
find_needs-needs-requires-clause-shape c = c.in-Ok.ensures.point.0 ∙ c.shape-shape.ensures.shape

pub lowest_jump-requires-clause-shape : goal.lowest_jump-requires-clause-shape
lowest_jump-requires-clause-shape c = c.in-Ok.ensures.point.0 ∙ c.shape-shape.ensures.shape

pub landing-landed-requires-clause-shape : goal.landing-landed-requires-clause-shape
landing-landed-requires-clause-shape c = c.in-Ok.ensures.point.0 ∙ c.shape-shape.ensures.shape

pub lowest_jump-requires-clause-needs : goal.lowest_jump-requires-clause-needs
lowest_jump-requires-clause-needs c = c.find_needs-needs.ensures.needs

pub landing-landed-requires-clause-jump : goal.landing-landed-requires-clause-jump
landing-landed-requires-clause-jump c = c.in-Some.ensures.jump.1

pub interleave-requires : goal.interleave-requires
interleave-requires c = c.landing-landed.ensures.point.0 ∙ c.in-Ok.ensures.point.0
