use Rattle.std.proofs.Common.{arith}
use Rattle.std.proofs.lemmas.Grind.{elements}
use Rattle.ub_filter.proofs.choice.Choice.of.Goals as goal

pub returns-then-have_dims : goal.returns-then-have_dims
returns-then-have_dims c = grind (arith, elements) steps 2000000
