use Rattle.std.proofs.Common.{refl}
use Rattle.ub_answer.specs.inner.Cut.{cut}
use Rattle.ub_answer.proofs.cells.Cells.none.Goals as goal

pub returns : goal.returns
unfolding cut
returns c = refl
