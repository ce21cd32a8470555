use Rattle.std.proofs.Common.{[], arith, take}
use Rattle.ub_answer.proofs.ResultFacts.{made_at, made_wide}
use Rattle.ub_answer.proofs.row_set.RowSet.cell.Goals as goal

pub cell_at-requires-clause-within : goal.cell_at-requires-clause-within
cell_at-requires-clause-within c =
    let wide =
    made_wide c.self.inside.schema (take c.self.inside.width c.self.inside.items) c.self.inside.rows.items c.args.self.now c.self.inside.width c.self.view_is c.self.invariant.1
    c.args.index [] c.requires.row in
    let long = c.self.invariant.1 in
    let within = c.requires.place in
    omega arith

pub returns : goal.returns
returns c =
    made_at c.self.inside.schema (take c.self.inside.width c.self.inside.items) c.self.inside.rows.items c.as_slice.result.now c.args.self.now c.args.index c.args.place _ c.cell_at.result
    c.self.view_is c.as_slice.ensures.value c.requires.row c.cell_at.ensures
