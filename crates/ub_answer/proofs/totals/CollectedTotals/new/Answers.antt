use Rattle.ub_answer.proofs.TotalFacts.{totals-none}
use Rattle.ub_answer.proofs.totals.CollectedTotals.new.Goals as goal

pub returns : goal.returns
returns c schema = totals-none schema c.args.query.now.items c.as_slice.result.now c.tally_of_none.result c.as_slice.ensures c.tally_of_none.ensures
