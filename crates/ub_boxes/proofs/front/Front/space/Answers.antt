use Rattle.std.proofs.Common.{refl}
use Rattle.ub_boxes.proofs.SizeFacts.{take_of_four}
use Rattle.ub_boxes.proofs.front.Front.space.Goals as goal

pub returns : goal.returns
returns c = rw (take_of_four 0 c.args.dims c.requires, take_of_four 4294967295 c.args.dims c.requires) refl
