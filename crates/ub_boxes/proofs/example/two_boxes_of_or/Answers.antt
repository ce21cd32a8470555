use Rattle.std.proofs.Common.{refl}
use Rattle.ub_table.specs.Value.{shift}
use Rattle.ub_boxes.proofs.example.two_boxes_of_or.Goals as goal

-- src/example.rt:6:1
pub returns : goal.returns
unfolding shift
returns c = refl
