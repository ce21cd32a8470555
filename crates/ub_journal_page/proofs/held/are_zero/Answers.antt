use Rattle.std.proofs.Common.{refl, arith}
use Rattle.std.proofs.lemmas.Bool.{eqb-true, eq-eqb}
use Rattle.ub_journal_page.proofs.ZeroFacts.{more_zero, all_zero}
use Rattle.ub_journal_page.proofs.held.are_zero.Goals as goal

pub loop-i-init : goal.loop-i-init
loop-i-init c = ((λ _ k lt. absurd (omega (arith, lt))), (λ _. refl))

pub loop-i-preserved : goal.loop-i-preserved
loop-i-preserved c = more_zero c.args.bytes.now c.loop-i.joined c.loop-i.i c.loop-i.invariant

pub returns : goal.returns
returns c =
    let all = all_zero c.args.bytes.now c.loop-i.joined c.loop-i.i c.loop-i.invariant c.loop-i-test.false c.loop-i.auto.i-end in
    ((λ yes. all.0 (eqb-true c.loop-i.joined 0 yes)), (λ is. eq-eqb c.loop-i.joined 0 (all.1 is)))
