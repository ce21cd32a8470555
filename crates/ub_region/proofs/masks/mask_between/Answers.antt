use Rattle.ub_region.proofs.MaskFacts.{IsMaskBelow-none, IsMaskBelow-more}
use Rattle.ub_region.proofs.masks.mask_between.Goals as goal

pub loop-dim-init : goal.loop-dim-init
loop-dim-init c = IsMaskBelow-none c.args.len c.args.dims.now c.args.lo.now c.args.hi.now

pub loop-dim-preserved : goal.loop-dim-preserved
loop-dim-preserved c =
    IsMaskBelow-more c.args.len c.args.dims.now c.args.lo.now c.args.hi.now c.loop-dim.mask c.loop-dim.dim c.mask_of-mask.result c.requires.few c.mask_of-mask.ensures c.loop-dim.invariant
