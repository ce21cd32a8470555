use Rattle.std.proofs.Common.{◌∙◌, refl}
use Rattle.ub_tetris.proofs.BoxFacts.{has_more, have_all, lacks_dimension}
use Rattle.ub_tetris.proofs.course.have_dimension.Goals as goal

pub loop-zbox-init : goal.loop-zbox-init
loop-zbox-init c = tt

pub returns-then-dim-values : goal.returns-then-dim-values
returns-then-dim-values c =
    lacks_dimension c.args.boxes.now c.args.dim c.loop-zbox.zbox-index c.zbox-item.result c.values.result.now c.loop-zbox-test.true c.zbox-item.is (c.values.ensures.values ∙ c.lo.ensures.lo)
    c.if-dim-values.true

pub loop-zbox-preserved : goal.loop-zbox-preserved
loop-zbox-preserved c =
    has_more c.args.boxes.now c.args.dim c.loop-zbox.zbox-index _ c.zbox-item.result c.values.result.now refl c.loop-zbox-test.true c.zbox-item.is (c.values.ensures.values ∙ c.lo.ensures.lo)
    c.if-dim-values.false c.loop-zbox.invariant

pub returns : goal.returns
returns c = have_all c.args.boxes.now c.args.dim c.loop-zbox.zbox-index c.loop-zbox-test.false c.loop-zbox.invariant
