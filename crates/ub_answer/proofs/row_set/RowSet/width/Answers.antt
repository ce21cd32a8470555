use Rattle.std.proofs.Common.{take}
use Rattle.ub_answer.proofs.ResultFacts.{made_wide}
use Rattle.ub_answer.proofs.row_set.RowSet.width.Goals as goal

pub returns : goal.returns
returns c =
    made_wide c.self.inside.schema (take c.self.inside.width c.self.inside.items) c.self.inside.rows.items c.args.self.now c.self.inside.width c.self.view_is c.self.invariant.1
