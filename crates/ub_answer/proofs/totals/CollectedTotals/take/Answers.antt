use Rattle.ub_answer.proofs.TotalFacts.{totals-next}
use Rattle.ub_answer.proofs.totals.CollectedTotals.take.Goals as goal

pub returns : goal.returns
returns c taken totals held =
    totals-next c.args.schema.now c.args.query.now.items c.as_slice.result.now taken c.args.row.now c.args.self.now.tally c.add_row.new.tally c.as_slice.ensures
    totals c.add_row.ensures.narrow c.add_row.ensures.cells held
