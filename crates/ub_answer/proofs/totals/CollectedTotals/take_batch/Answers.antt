use Rattle.ub_answer.proofs.TotalFacts.{totals-more}
use Rattle.ub_answer.proofs.totals.CollectedTotals.take_batch.Goals as goal

pub returns : goal.returns
returns g c taken totals held =
    totals-more c.args.schema.now c.args.query.now.items c.as_slice.result.now taken
    (g.B.RowBatch.rows c.args.batch.now) c.args.self.now.tally c.add_batch.new.tally c.as_slice.ensures
    totals c.add_batch.ensures.small c.add_batch.ensures.cells held
