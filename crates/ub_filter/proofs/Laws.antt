-- The law of choices, as specs/Laws.antt states it.
use Rattle.ub_filter.proofs.ChoiceFacts.{chosen_selected}
use Rattle.ub_filter.specs.Laws.{ChosenAreSelected}

pub chosen_are_selected : ChosenAreSelected
chosen_are_selected choice schema q next regions rows limit are among = chosen_selected choice schema q next regions rows limit are among
