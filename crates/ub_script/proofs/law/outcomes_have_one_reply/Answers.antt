use Rattle.ub_script.proofs.Laws.{outcomes_have_one_reply}
use Rattle.ub_script.proofs.law.outcomes_have_one_reply.Goals as goal

pub returns : goal.returns
returns c = outcomes_have_one_reply
