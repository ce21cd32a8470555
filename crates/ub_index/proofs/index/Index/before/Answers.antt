use Rattle.std.proofs.Common.{◌∙◌, sym}
use Rattle.ub_index.proofs.PlaceFacts.{none_is_before, some_is_before}
use Rattle.ub_index.proofs.index.Index.before.Goals as goal

pub returns-in_ok-region_holding-in-Some-clause-before : goal.returns-in_ok-region_holding-in-Some-clause-before
returns-in_ok-region_holding-in-Some-clause-before g c = λ sure i is at.
    some_is_before c.args.self.now c.args.pager.now.store is i c.args.region.now at c.in-Some.key c.in_ok-region_holding-in-Some.field-0 (sym c.before_key.ensures ∙ c.in-Some.is)
    (c.in_ok-region_holding-in-Some.ensures.given sure)

pub returns-in-None-clause-before : goal.returns-in-None-clause-before
returns-in-None-clause-before g c = λ sure i is at. none_is_before c.args.self.now c.args.pager.now.store is i c.args.region.now at (sym c.before_key.ensures ∙ c.in-None.is)
