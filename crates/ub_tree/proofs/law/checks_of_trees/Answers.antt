use Rattle.ub_tree.proofs.Laws.{well_pages_are_sound, sound_trees_are_well, first_fault_is_one}
use Rattle.ub_tree.proofs.law.checks_of_trees.Goals as goal

pub returns-clause-well_pages_are_sound : goal.returns-clause-well_pages_are_sound
returns-clause-well_pages_are_sound c = well_pages_are_sound

pub returns-clause-sound_trees_are_well : goal.returns-clause-sound_trees_are_well
returns-clause-sound_trees_are_well c = sound_trees_are_well

pub returns-clause-first_fault_is_one : goal.returns-clause-first_fault_is_one
returns-clause-first_fault_is_one c = first_fault_is_one
