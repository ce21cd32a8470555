use Rattle.ub_region.proofs.ShiftFacts.{across_four}
use Rattle.ub_region.proofs.columns.put_point.Goals as goal

pub returns-clause-at : goal.returns-clause-at
returns-clause-at c =
    across_four 0 c.args.columns.now c.put_in.new.column c.put_in-2.new.column c.put_in-3.new.column c.put_in-4.new.column c.args.point.now c.args.index c.told-columns c.told-point
    (c.put_in.ensures.at 0) (c.put_in-2.ensures.at 0) (c.put_in-3.ensures.at 0) (c.put_in-4.ensures.at 0)
