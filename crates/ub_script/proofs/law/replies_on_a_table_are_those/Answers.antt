use Rattle.ub_script.proofs.Laws.{replies_on_a_table_are_those}
use Rattle.ub_script.proofs.law.replies_on_a_table_are_those.Goals as goal

pub returns : goal.returns
returns c = replies_on_a_table_are_those
