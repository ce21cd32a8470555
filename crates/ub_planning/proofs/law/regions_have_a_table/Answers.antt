use Rattle.ub_planning.proofs.Laws.{regions_have_a_table}
use Rattle.ub_planning.proofs.law.regions_have_a_table.Goals as goal

pub returns : goal.returns
returns c = regions_have_a_table
