use Rattle.ub_tree.proofs.Laws.{whole_is_told, stretches_begin, lowest_are_regions}
use Rattle.ub_tree.proofs.law.stretches_are_told.Goals as goal

pub returns-clause-whole_is_told : goal.returns-clause-whole_is_told
returns-clause-whole_is_told c = whole_is_told

pub returns-clause-stretches_begin : goal.returns-clause-stretches_begin
returns-clause-stretches_begin c = stretches_begin

pub returns-clause-lowest_are_regions : goal.returns-clause-lowest_are_regions
returns-clause-lowest_are_regions c = lowest_are_regions
