use Rattle.ub_tree.proofs.Laws.{answers_are_those_that_meet, answers_are_regions_that_meet, answers_ascend, answers_cover}
use Rattle.ub_tree.proofs.law.answers_of_next_meeting.Goals as goal

pub returns-clause-answers_are_those_that_meet : goal.returns-clause-answers_are_those_that_meet
returns-clause-answers_are_those_that_meet c = answers_are_those_that_meet

pub returns-clause-answers_are_regions_that_meet : goal.returns-clause-answers_are_regions_that_meet
returns-clause-answers_are_regions_that_meet c = answers_are_regions_that_meet

pub returns-clause-answers_ascend : goal.returns-clause-answers_ascend
returns-clause-answers_ascend c = answers_ascend

pub returns-clause-answers_cover : goal.returns-clause-answers_cover
returns-clause-answers_cover c = answers_cover
