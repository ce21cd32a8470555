use Rattle.ub_query.proofs.Laws.{rows_have_an_arrangement}
use Rattle.ub_query.proofs.law.rows_have_an_arrangement.Goals as goal

pub returns : goal.returns
returns c = rows_have_an_arrangement
