-- The part lies between its two corners.
use Rattle.std.proofs.Common.{◌∙◌, sym}
use Rattle.ub_bigmin.proofs.PartFacts.{is_part}
use Rattle.ub_bigmin.proofs.event.part_at.Goals as goal

pub new-requires-clause-lo : goal.new-requires-clause-lo
new-requires-clause-lo c = c.start_at.ensures.length ∙ sym c.shape.ensures.shape

pub new-requires-clause-hi : goal.new-requires-clause-hi
new-requires-clause-hi c = c.end_at.ensures.length ∙ sym c.shape.ensures.shape

pub returns : goal.returns
returns c =
    is_part c.shape.result c.args.zbox.now c.shape.ensures.corners c.args.z c.args.free _ _ c.start_at.ensures.start c.end_at.ensures.end c.new.result c.new.ensures.some c.new.ensures.corners
