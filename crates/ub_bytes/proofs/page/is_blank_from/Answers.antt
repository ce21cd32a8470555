use Rattle.ub_bytes.proofs.ZeroFacts.{blank_rest}
use Rattle.ub_bytes.proofs.page.is_blank_from.Goals as goal

pub returns : goal.returns
returns c = blank_rest c.args.offset c.args.page.now c.are_zero.result c.told-page c.are_zero.ensures
