use Rattle.std.proofs.Common.{◌≡◌, ◌-◌, ◌+◌, ℕ, drop, replicate, subst, arith}
use Rattle.ub_journal_page.proofs.HeldFacts.{held_at, held_none, zero_before}
use Rattle.ub_journal_page.proofs.held.held_to.Goals as goal

pub returns-then-page-at-ne0-clause-held : goal.returns-then-page-at-ne0-clause-held
returns-then-page-at-ne0-clause-held c =
    let less = c.loop-i-test.true in
    held_at c.args.page.now (c.args.end - c.loop-i.i - 1) (c.args.end - c.loop-i.i) (omega arith) c.if-page-at-ne0.true c.loop-i.invariant

pub loop-i-preserved : goal.loop-i-preserved
loop-i-preserved c =
    let less = c.loop-i-test.true in
    let within = c.requires.within in
    let same : c.args.end - c.loop-i.i - 1 ≡ c.args.end - (c.loop-i.i + 1) = omega arith in
    let from = zero_before c.args.page.now (c.args.end - c.loop-i.i - 1) (c.args.end - c.loop-i.i) c.told-page (omega arith) (omega arith) c.if-page-at-ne0.false c.loop-i.invariant in
    subst (λ (n : ℕ). drop n c.args.page.now ≡ replicate (4096 - n) 0) same from

pub returns-clause-held : goal.returns-clause-held
returns-clause-held c = let past = c.loop-i-test.false in held_none c.args.page.now (c.args.end - c.loop-i.i) c.told-page (omega arith) c.loop-i.invariant
