use Rattle.std.proofs.Common.{refl}
use Rattle.ub_exec.proofs.TakenFacts.{stopped_next, taken_all, taken_next}
use Rattle.ub_exec.proofs.deleting.take_out.Goals as goal

pub loop-key-init : goal.loop-key-init
loop-key-init g c = (0, (refl, refl))

pub loop-key-preserved : goal.loop-key-preserved
loop-key-preserved g c =
    taken_next c.args.keys.now c.loop-key.key-index _ c.args.tree.now c.loop-key.tree c.remove.new.self c.in_ok-remove.field-0 c.loop-key-test.true c.loop-key.invariant c.in_ok-remove.ensures

pub returns-in_err-remove : goal.returns-in_err-remove
returns-in_err-remove g c =
    stopped_next c.args.keys.now c.loop-key.key-index _ c.args.tree.now c.loop-key.tree c.remove.new.self c.from_residual.result _ c.from_residual.ensures.1 c.loop-key-test.true c.loop-key.invariant
    c.in_err-remove.ensures

pub overflow_sub-result : goal.overflow_sub-result
overflow_sub-result g c =
    (taken_all c.args.keys.now c.loop-key.key-index c.args.tree.now c.loop-key.tree c.rows-rows.result c.rows.result c.loop-key-test.false c.loop-key.invariant c.rows-rows.ensures c.rows.ensures).0

pub returns : goal.returns
returns g c =
    (taken_all c.args.keys.now c.loop-key.key-index c.args.tree.now c.loop-key.tree c.rows-rows.result c.rows.result c.loop-key-test.false c.loop-key.invariant c.rows-rows.ensures c.rows.ensures).1
