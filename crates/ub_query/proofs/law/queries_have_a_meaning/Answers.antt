use Rattle.ub_query.proofs.Laws.{queries_have_a_meaning}
use Rattle.ub_query.proofs.law.queries_have_a_meaning.Goals as goal

pub returns : goal.returns
returns c = queries_have_a_meaning
