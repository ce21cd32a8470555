use Rattle.ub_filter.proofs.Laws.{chosen_are_selected}
use Rattle.ub_filter.proofs.law.chosen_are_selected.Goals as goal

pub returns : goal.returns
returns c = chosen_are_selected
