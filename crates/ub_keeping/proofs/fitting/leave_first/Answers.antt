use Rattle.std.proofs.Common.{◌≤◌, ℕ, arith, le-leb, subst, sym}
use Rattle.std.proofs.lemmas.Bool.{leb-true}
use Rattle.ub_keeping.proofs.FitFacts.{last_tells, too_few}
use Rattle.ub_keeping.proofs.fitting.leave_first.Goals as goal

pub returns-then-changes-missing : goal.returns-then-changes-missing
returns-then-changes-missing c =
    let same = c.from-count.ensures in
    let less = c.if-changes-missing.true in (
      (λ t. absurd (let wrong = t in cc)),
      (λ leave. absurd (too_few c.args.pages c.args.count c.args.changes.now c.requires.some c.requires.ascending (omega (arith, same, less)) leave)),
    )

pub returns : goal.returns
returns c =
    let same = c.from-count.ensures in
    let more = c.if-count-pages.false in
    let many = c.if-changes-missing.false in
    let both = last_tells c.args.pages c.args.count c.args.changes.now _ _ c.requires.some (omega (arith, same, more)) c.requires.ascending (omega (arith, same, many)) (omega (arith, same)) in (
      (λ yes. both.0 (subst (λ (k : ℕ). c.args.pages ≤ k) c.from.ensures (leb-true _ _ yes))),
      (λ leave. le-leb _ _ (subst (λ (k : ℕ). c.args.pages ≤ k) (sym c.from.ensures) (both.1 leave))),
    )
