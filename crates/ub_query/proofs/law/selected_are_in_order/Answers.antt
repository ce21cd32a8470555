use Rattle.ub_query.proofs.Laws.{selected_are_in_order}
use Rattle.ub_query.proofs.law.selected_are_in_order.Goals as goal

pub returns : goal.returns
returns c = selected_are_in_order
