use Rattle.ub_script.proofs.Laws.{scripts_have_one_summary}
use Rattle.ub_script.proofs.law.scripts_have_one_summary.Goals as goal

pub returns : goal.returns
returns c = scripts_have_one_summary
