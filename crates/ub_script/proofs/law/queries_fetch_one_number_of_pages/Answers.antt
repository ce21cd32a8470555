use Rattle.ub_script.proofs.Laws.{queries_fetch_one_number_of_pages}
use Rattle.ub_script.proofs.law.queries_fetch_one_number_of_pages.Goals as goal

pub returns : goal.returns
returns c = queries_fetch_one_number_of_pages
