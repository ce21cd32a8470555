use Rattle.ub_plan.proofs.Laws.{explains_have_one_text}
use Rattle.ub_plan.proofs.law.explains_have_one_text.Goals as goal

pub returns : goal.returns
returns c = explains_have_one_text
