use Rattle.std.proofs.Common.{arith}
use Rattle.std.proofs.lemmas.Grind.{elements}
use Rattle.ub_bigmin.proofs.zbox.ZBox.holds.Goals as goal

pub returns-in-Err : goal.returns-in-Err
returns-in-Err c = grind (arith, elements) steps 2000000

pub returns-then-is_at_most : goal.returns-then-is_at_most
returns-then-is_at_most c = grind (arith, elements) steps 2000000

pub returns-else-is_at_most : goal.returns-else-is_at_most
returns-else-is_at_most c = grind (arith, elements) steps 2000000
