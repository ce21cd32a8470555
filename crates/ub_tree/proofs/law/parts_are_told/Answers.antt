use Rattle.ub_tree.proofs.Laws.{parts_are_told, parts_are_below, parts_ascend, parts_lie_within}
use Rattle.ub_tree.proofs.law.parts_are_told.Goals as goal

pub returns-clause-parts_are_told : goal.returns-clause-parts_are_told
returns-clause-parts_are_told c = parts_are_told

pub returns-clause-parts_are_below : goal.returns-clause-parts_are_below
returns-clause-parts_are_below c = parts_are_below

pub returns-clause-parts_ascend : goal.returns-clause-parts_ascend
returns-clause-parts_ascend c = parts_ascend

pub returns-clause-parts_lie_within : goal.returns-clause-parts_lie_within
returns-clause-parts_lie_within c = parts_lie_within
