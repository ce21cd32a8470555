use Rattle.std.proofs.Common.{arith}
use Rattle.ub_script.proofs.EndFacts.{no_answer}
use Rattle.ub_script.proofs.HeldFacts.{Puts-none, Puts-step, Puts-all, Puts-broken, Puts-nothing}
use Rattle.ub_script.proofs.StartFacts.{on_err}
use Rattle.ub_script.proofs.output.put_all.Goals as goal

pub loop-at-init : goal.loop-at-init
loop-at-init g c = record { within = omega arith; put = Puts-none _ }

pub loop-at-preserved : goal.loop-at-preserved
loop-at-preserved g c =
    let inv = c.loop-at.invariant in
    let on = Puts-step _ _ _ c.args.bytes.now c.loop-at.at c.in_ok-n.n inv.within inv.put c.if-n-eq0.false c.in_ok-n.ensures in
    record { within = on.0; put = on.1 }

pub returns-then-n-eq0-clause-whole : goal.returns-then-n-eq0-clause-whole
returns-then-n-eq0-clause-whole g c = tt

pub returns-in_err-n-clause-whole : goal.returns-in_err-n-clause-whole
returns-in_err-n-clause-whole g c = no_answer c.from_residual.result _ _ c.from_residual.ensures.1

pub returns-clause-front : goal.returns-clause-front
returns-clause-front g c = tt

pub returns-in_err-n-clause-front : goal.returns-in_err-n-clause-front
returns-in_err-n-clause-front g c =
    on_err c.from_residual.result _ (Puts-broken _ _ _ c.args.bytes.now c.loop-at.at c.loop-at-test.true c.loop-at.invariant.put c.in_err-n.ensures)

pub returns-then-n-eq0-clause-front : goal.returns-then-n-eq0-clause-front
returns-then-n-eq0-clause-front g c =
    Puts-nothing _ _ _ c.args.bytes.now c.loop-at.at c.in_ok-n.n c.loop-at-test.true c.if-n-eq0.true c.loop-at.invariant.put c.in_ok-n.ensures

pub returns-clause-whole : goal.returns-clause-whole
returns-clause-whole g c = Puts-all _ _ c.args.bytes.now c.loop-at.at (omega (arith, c.loop-at-test.false)) c.loop-at.invariant.put
