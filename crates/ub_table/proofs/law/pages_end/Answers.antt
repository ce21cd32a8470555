use Rattle.std.proofs.Common.{refl}
use Rattle.ub_table.proofs.law.pages_end.Goals as goal

pub returns : goal.returns
returns c = refl
