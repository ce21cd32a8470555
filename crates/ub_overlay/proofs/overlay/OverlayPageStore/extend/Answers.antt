-- There are as many pages as there can be, memory was refused, or a page was added.
use Rattle.std.proofs.Common.{rules, refl, sym}
use Rattle.ub_overlay.proofs.OverlayFacts as facts
use Rattle.ub_overlay.proofs.overlay.OverlayPageStore.extend.Goals as goal

pub returns-then-n-clause-full : goal.returns-then-n-clause-full
returns-then-n-clause-full g c = rw (← c.self.view_is) (λ _. facts.full_is 4294967295 c.self.invariant c.if-n.true, λ _. search rules)

pub returns-then-is_err-clause-full : goal.returns-then-is_err-clause-full
returns-then-is_err-clause-full g c = rw (← c.self.view_is)
    (λ bad. absurd (search (rules, bad)), λ full. absurd (c.if-n.false (facts.count_too 4294967295 c.self.invariant full)))

pub invariant_of-self-2 : goal.invariant_of-self-2
invariant_of-self-2 g c =
    let put = facts.was_ok c.put.result _ c.if-is_err.ensures.value c.put.ensures.put in
    rw put (facts.grown_overlay _ c.self.invariant)

pub returns-clause-added : goal.returns-clause-added
returns-clause-added g c =
    let put = facts.was_ok c.put.result _ c.if-is_err.ensures.value c.put.ensures.put in
    rw (put, ← c.self.view_is) refl

pub returns-clause-number : goal.returns-clause-number
returns-clause-number g c = rw (← c.self.view_is) (sym (facts.full_is c.self.inside.count c.self.invariant refl))

pub returns-clause-room : goal.returns-clause-room
returns-clause-room g c = rw (← c.self.view_is) (facts.room_is 4294967295 c.self.invariant (search rules))

pub returns-clause-full : goal.returns-clause-full
returns-clause-full g c = rw (← c.self.view_is)
    (λ bad. absurd (search (rules, bad)), λ full. absurd (c.if-n.false (facts.count_too 4294967295 c.self.invariant full)))

pub returns-clause-effect : goal.returns-clause-effect
returns-clause-effect g c =
    let put = facts.was_ok c.put.result _ c.if-is_err.ensures.value c.put.ensures.put in
    rw (put, ← c.self.view_is) (facts.grown _ c.self.inside.count c.self.invariant)
