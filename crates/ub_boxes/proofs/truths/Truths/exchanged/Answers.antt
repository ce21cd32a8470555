use Rattle.std.proofs.Common.{rules}
use Rattle.ub_boxes.proofs.truths.Truths.exchanged.Goals as goal

pub returns : goal.returns
returns c = search rules
