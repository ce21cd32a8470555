use Rattle.ub_script.proofs.Laws.{full_tables_stay}
use Rattle.ub_script.proofs.law.full_tables_stay.Goals as goal

pub returns : goal.returns
returns c = full_tables_stay
