use Rattle.ub_table.proofs.MaskFacts.{mask_from, mask_to}
use Rattle.ub_table.proofs.schema.is_mask.Goals as goal

pub returns : goal.returns
returns c = (mask_from c.args.dims c.args.signed, mask_to c.args.dims c.args.signed)
