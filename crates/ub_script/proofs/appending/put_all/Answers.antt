use Rattle.std.proofs.Common.{refl}
use Rattle.ub_script.proofs.AppendFacts.{fewer_at, put_next, put_stopped, put_whole, row_at}
use Rattle.ub_script.proofs.ChangeFacts.{if_err}
use Rattle.ub_script.proofs.EndFacts.{no_answer}
use Rattle.ub_script.proofs.appending.put_all.Goals as goal

pub loop-row-init : goal.loop-row-init
loop-row-init g c = refl

pub insert_numbered-requires-clause-row : goal.insert_numbered-requires-clause-row
insert_numbered-requires-clause-row g c =
    row_at c.args.tree.now c.loop-row.tree c.args.ordered.now c.loop-row.row-index _ c.requires.rows c.loop-row.invariant c.loop-row-test.true

pub insert_numbered-requires-clause-fewer : goal.insert_numbered-requires-clause-fewer
insert_numbered-requires-clause-fewer g c =
    fewer_at c.args.tree.now c.loop-row.tree c.args.ordered.now c.loop-row.row-index _ c.requires.later c.requires.fewer c.loop-row-test.true c.loop-row.invariant

pub loop-row-preserved : goal.loop-row-preserved
loop-row-preserved g c =
    put_next c.args.tree.now c.loop-row.tree c.insert_numbered.new.self c.args.ordered.now c.loop-row.row-index _ _ c.loop-row-test.true c.loop-row.invariant c.in_ok-insert_numbered.ensures

pub returns-in_err-insert_numbered-clause-put : goal.returns-in_err-insert_numbered-clause-put
returns-in_err-insert_numbered-clause-put g c = no_answer c.from_residual.result _ _ c.from_residual.ensures.1

pub returns-in_err-insert_numbered-clause-stopped : goal.returns-in_err-insert_numbered-clause-stopped
returns-in_err-insert_numbered-clause-stopped g c =
    if_err c.from_residual.result _ _ c.from_residual.ensures.1
    (put_stopped c.args.tree.now c.loop-row.tree c.insert_numbered.new.self c.args.ordered.now c.loop-row.row-index _ c.in_err-insert_numbered.field-0.0 c.loop-row-test.true c.loop-row.invariant c.in_err-insert_numbered.ensures)

pub returns-clause-put : goal.returns-clause-put
returns-clause-put g c = put_whole c.args.tree.now c.loop-row.tree c.args.ordered.now c.loop-row.row-index c.loop-row-test.false c.loop-row.invariant

pub returns-clause-stopped : goal.returns-clause-stopped
returns-clause-stopped g c = tt
