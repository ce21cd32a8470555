use Rattle.ub_planning.proofs.Laws.{selected_rows_are_met}
use Rattle.ub_planning.proofs.law.selected_rows_are_met.Goals as goal

pub returns : goal.returns
returns c = selected_rows_are_met
