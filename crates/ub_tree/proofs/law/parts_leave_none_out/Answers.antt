use Rattle.ub_tree.proofs.Laws.{parts_lie_in, parts_hold}
use Rattle.ub_tree.proofs.law.parts_leave_none_out.Goals as goal

pub returns-clause-parts_lie_in : goal.returns-clause-parts_lie_in
returns-clause-parts_lie_in c = parts_lie_in

pub returns-clause-parts_hold : goal.returns-clause-parts_hold
returns-clause-parts_hold c = parts_hold
