use Rattle.ub_query.proofs.Laws.{plain_queries_mean}
use Rattle.ub_query.proofs.law.plain_queries_mean.Goals as goal

pub returns : goal.returns
returns c = plain_queries_mean
