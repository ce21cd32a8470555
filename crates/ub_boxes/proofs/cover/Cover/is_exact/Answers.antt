use Rattle.std.proofs.Common.{rules}
use Rattle.ub_boxes.proofs.cover.Cover.is_exact.Goals as goal

pub returns : goal.returns
returns c = search rules
