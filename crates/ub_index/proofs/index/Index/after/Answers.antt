use Rattle.ub_index.proofs.PlaceFacts.{after_none, after_some}
use Rattle.ub_index.proofs.index.Index.after.Goals as goal

pub returns-in_ok-region_holding-in-Some-clause-after : goal.returns-in_ok-region_holding-in-Some-clause-after
returns-in_ok-region_holding-in-Some-clause-after g c = λ sure i is at.
    after_some c.args.self.now c.args.pager.now.store is i c.args.region.now at c.in-Some.next c.in_ok-region_holding-in-Some.field-0 c.in-Some.is (c.in_ok-region_holding-in-Some.ensures.given sure)

pub returns-in-None-clause-after : goal.returns-in-None-clause-after
returns-in-None-clause-after g c = λ sure i is at. after_none c.args.self.now c.args.pager.now.store is i c.args.region.now at c.in-None.is
