use Rattle.ub_script.proofs.Laws.{unchanged_tables_stay}
use Rattle.ub_script.proofs.law.unchanged_tables_stay.Goals as goal

pub returns : goal.returns
returns c = unchanged_tables_stay
