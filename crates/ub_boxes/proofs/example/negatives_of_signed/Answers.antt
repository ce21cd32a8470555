use Rattle.std.proofs.Common.{refl}
use Rattle.ub_table.specs.Value.{shift}
use Rattle.ub_boxes.proofs.example.negatives_of_signed.Goals as goal

-- src/example.rt:21:1
pub returns : goal.returns
unfolding shift
returns c = refl
