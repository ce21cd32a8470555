use Rattle.std.proofs.Common.{take}
use Rattle.ub_filter.proofs.ChoiceFacts.{by_mask, in_none, in_more, in_all, more_bits}
use Rattle.ub_filter.proofs.choice.rows_inside.Goals as goal

pub loop-zbox-init : goal.loop-zbox-init
loop-zbox-init c i row at = in_none i c.args.boxes.now (take c.args.page.now.dims row.dims)

pub loop-zbox-preserved : goal.loop-zbox-preserved
loop-zbox-preserved c i row at =
    more_bits c.loop-zbox.inside c.mask-inside.result i _ _ _ (c.loop-zbox.invariant i row at)
    (by_mask _ c.args.page.now.region.rows i row c.args.page.now.dims c.zbox-item.result at (c.mask-inside.ensures i))
    (in_more c.args.boxes.now c.loop-zbox.zbox-index c.zbox-item.result (take c.args.page.now.dims row.dims) c.loop-zbox-test.true c.zbox-item.is)

pub returns : goal.returns
returns c i row at = in_all _ c.args.boxes.now c.loop-zbox.zbox-index (take c.args.page.now.dims row.dims) c.loop-zbox-test.false (c.loop-zbox.invariant i row at)
