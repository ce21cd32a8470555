use Rattle.ub_query.proofs.Laws.{group_queries_are_told}
use Rattle.ub_query.proofs.law.group_queries_are_told.Goals as goal

pub returns : goal.returns
returns c = group_queries_are_told
