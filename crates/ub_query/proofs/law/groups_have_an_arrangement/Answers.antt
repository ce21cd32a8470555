use Rattle.ub_query.proofs.Laws.{groups_have_an_arrangement}
use Rattle.ub_query.proofs.law.groups_have_an_arrangement.Goals as goal

pub returns : goal.returns
returns c = groups_have_an_arrangement
