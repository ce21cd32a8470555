use Rattle.std.proofs.Common.{map, length, ◌∙◌}
use Rattle.std.proofs.lemmas.List.{length-map}
use Rattle.ub_answer.proofs.CutFacts.{pieces-next, pieces-all}
use Rattle.ub_query.specs.Cells.{row_cell}
use Rattle.ub_answer.proofs.row_set.cells_of_rows.Goals as goal

pub loop-row-preserved : goal.loop-row-preserved
loop-row-preserved c =
    pieces-next (λ row. map (row_cell c.args.schema.now row) c.args.items.now) c.args.rows.now c.loop-row.row-index _ c.loop-row.cells.items c.push_row.new.cells.items
    c.loop-row-test.true c.loop-row.invariant c.in_ok-push_row.ensures

pub new-requires : goal.new-requires
new-requires c =
    (pieces-all (λ row. map (row_cell c.args.schema.now row) c.args.items.now) (length c.args.items.now)
    (λ row. length-map c.args.items.now (row_cell c.args.schema.now row)) c.args.rows.now c.loop-row.row-index c.loop-row.cells.items
    c.loop-row-test.false c.loop-row.invariant).0

pub returns : goal.returns
returns c =
    c.new.ensures.rows ∙ (pieces-all (λ row. map (row_cell c.args.schema.now row) c.args.items.now) (length c.args.items.now)
    (λ row. length-map c.args.items.now (row_cell c.args.schema.now row)) c.args.rows.now c.loop-row.row-index c.loop-row.cells.items
    c.loop-row-test.false c.loop-row.invariant).1
