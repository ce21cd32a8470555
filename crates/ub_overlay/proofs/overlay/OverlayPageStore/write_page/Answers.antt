-- A page that isn't there, one for which memory was refused, and one that was put.
use Rattle.std.proofs.Common.{rules}
use Rattle.ub_overlay.proofs.OverlayFacts as facts
use Rattle.ub_overlay.proofs.overlay.OverlayPageStore.write_page.Goals as goal

pub returns-then-n-self-clause-missing : goal.returns-then-n-self-clause-missing
returns-then-n-self-clause-missing g c = rw (← c.self.view_is) (λ _. facts.past_is c.args.n c.self.invariant c.if-n-self.true, λ _. search rules)

pub returns-then-is_err-clause-held : goal.returns-then-is_err-clause-held
returns-then-is_err-clause-held g c = rw (← c.self.view_is)
    (λ _ held. held (facts.not_held c.args.n c.self.inside.changes (facts.was_err c.put.result _ c.if-is_err.ensures.value c.put.ensures.needed)))

pub returns-then-is_err-clause-missing : goal.returns-then-is_err-clause-missing
returns-then-is_err-clause-missing g c = rw (← c.self.view_is)
    (λ bad. absurd (search (rules, bad)), λ past. absurd (facts.not_past c.args.n c.self.invariant c.if-n-self.false past))

pub invariant_of-self-else-is_err : goal.invariant_of-self-else-is_err
invariant_of-self-else-is_err g c =
    let put = facts.was_ok c.put.result _ c.if-is_err.ensures.value c.put.ensures.put in
    rw put (facts.still_overlay _ c.args.n c.args.page.now c.self.invariant c.if-n-self.false)

pub returns-clause-there : goal.returns-clause-there
returns-clause-there g c = rw (← c.self.view_is) (facts.there_is c.args.n c.self.invariant c.if-n-self.false)

pub returns-clause-missing : goal.returns-clause-missing
returns-clause-missing g c = rw (← c.self.view_is)
    (λ bad. absurd (search (rules, bad)), λ past. absurd (facts.not_past c.args.n c.self.invariant c.if-n-self.false past))

pub returns-clause-effect : goal.returns-clause-effect
returns-clause-effect g c =
    let put = facts.was_ok c.put.result _ c.if-is_err.ensures.value c.put.ensures.put in
    rw (put, ← c.self.view_is) (facts.written _ c.args.n c.args.page.now c.self.invariant)
