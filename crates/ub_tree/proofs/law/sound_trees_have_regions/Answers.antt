use Rattle.ub_tree.proofs.Laws.{spans_ascend, pages_differ, spans_cover_the_space, rows_lie_in_spans, regions_are_told}
use Rattle.ub_tree.proofs.law.sound_trees_have_regions.Goals as goal

pub returns-clause-spans_ascend : goal.returns-clause-spans_ascend
returns-clause-spans_ascend c = spans_ascend

pub returns-clause-pages_differ : goal.returns-clause-pages_differ
returns-clause-pages_differ c = pages_differ

pub returns-clause-spans_cover_the_space : goal.returns-clause-spans_cover_the_space
returns-clause-spans_cover_the_space c = spans_cover_the_space

pub returns-clause-rows_lie_in_spans : goal.returns-clause-rows_lie_in_spans
returns-clause-rows_lie_in_spans c = rows_lie_in_spans

pub returns-clause-regions_are_told : goal.returns-clause-regions_are_told
returns-clause-regions_are_told c = regions_are_told
