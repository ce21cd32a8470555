-- Each item puts its cell behind those before.
use Rattle.std.proofs.Common.{append-nil, sym}
use Rattle.ub_answer.proofs.CutFacts.{values-all, values-next}
use Rattle.ub_query.specs.Cells.{row_cell}
use Rattle.ub_answer.proofs.row_set.push_row.Goals as goal

pub loop-item-init : goal.loop-item-init
loop-item-init c = sym (append-nil c.args.cells.now.items)

pub loop-item-preserved : goal.loop-item-preserved
loop-item-preserved c =
    values-next (row_cell c.args.schema.now c.args.row.now) c.args.items.now c.loop-item.item-index _ c.args.cells.now.items c.loop-item.cells.items
    c.push.new.self.items _
    c.loop-item-test.true c.loop-item.invariant c.in_ok-push.ensures.items c.row_cell.ensures

pub returns : goal.returns
returns c = values-all (row_cell c.args.schema.now c.args.row.now) c.args.items.now c.loop-item.item-index c.args.cells.now.items
    c.loop-item.cells.items c.loop-item-test.false c.loop-item.invariant
