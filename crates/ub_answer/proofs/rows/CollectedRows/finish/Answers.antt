use Rattle.std.proofs.Common.{refl}
use Rattle.ub_answer.proofs.RowFacts.{finished}
use Rattle.ub_answer.proofs.ShapedFacts.{shaped_rows}
use Rattle.ub_query.specs.Shape.{asked}
use Rattle.ub_answer.proofs.rows.CollectedRows.finish.Goals as goal

pub returns-clause-answer : goal.returns-clause-answer
returns-clause-answer c table filter taken of order moved h =
    let (sorted, same, up, is) = c.arrange_rows.ensures.arranged in
    finished table (record (asked c.args.query.now) { filter = filter }) c.args.schema.now taken c.args.self.rows.items sorted c.arrange_rows.new.rows.items c.arrange_rows.new.rows.items
    c.as_slice.result.now c.as_slice-2.result.now c.of_rows.result c.as_slice.ensures c.as_slice-2.ensures refl is of order moved h.0 same up c.of_rows.ensures

pub returns-clause-shaped : goal.returns-clause-shaped
returns-clause-shaped c =
    shaped_rows (asked c.args.query.now) c.args.schema.now c.as_slice-2.result.now c.arrange_rows.new.rows.items c.arrange_rows.new.rows.items c.of_rows.result
    c.as_slice-2.ensures refl c.arrange_rows.ensures.few c.of_rows.ensures
