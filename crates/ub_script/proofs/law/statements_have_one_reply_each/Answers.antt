use Rattle.ub_script.proofs.Laws.{statements_have_one_reply_each}
use Rattle.ub_script.proofs.law.statements_have_one_reply_each.Goals as goal

pub returns : goal.returns
returns c = statements_have_one_reply_each
