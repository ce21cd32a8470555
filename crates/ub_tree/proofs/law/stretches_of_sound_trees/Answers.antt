use Rattle.ub_tree.proofs.Laws.{all_are_within, lowest_hold_one, parts_cover, stretch_is_its_regions, some_region_meets}
use Rattle.ub_tree.proofs.law.stretches_of_sound_trees.Goals as goal

pub returns-clause-all_are_within : goal.returns-clause-all_are_within
returns-clause-all_are_within c = all_are_within

pub returns-clause-lowest_hold_one : goal.returns-clause-lowest_hold_one
returns-clause-lowest_hold_one c = lowest_hold_one

pub returns-clause-parts_cover : goal.returns-clause-parts_cover
returns-clause-parts_cover c = parts_cover

pub returns-clause-stretch_is_its_regions : goal.returns-clause-stretch_is_its_regions
returns-clause-stretch_is_its_regions c = stretch_is_its_regions

pub returns-clause-some_region_meets : goal.returns-clause-some_region_meets
returns-clause-some_region_meets c = some_region_meets
