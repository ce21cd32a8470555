use Rattle.std.proofs.Common.{refl}
use Rattle.ub_table.proofs.law.row_numbers_end.Goals as goal

pub returns : goal.returns
returns c = refl
