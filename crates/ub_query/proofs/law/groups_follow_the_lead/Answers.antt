use Rattle.ub_query.proofs.Laws.{groups_follow_the_lead}
use Rattle.ub_query.proofs.law.groups_follow_the_lead.Goals as goal

pub returns : goal.returns
returns c = groups_follow_the_lead
