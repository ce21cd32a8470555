-- A page that isn't there, one that is held, and one that the store below gave.
use Rattle.std.proofs.Common.{rules, sym, ap, ◌∙◌}
use Rattle.std.specs.Option.{option_copied}
use Rattle.ub_overlay.proofs.OverlayFacts as facts
use Rattle.ub_overlay.proofs.overlay.OverlayPageStore.read_into.Goals as goal

pub returns-then-n-self-clause-held : goal.returns-then-n-self-clause-held
returns-then-n-self-clause-held g c = rw (← c.self.view_is)
    (λ held. absurd (held (facts.past_untouched c.args.n c.self.inside.count c.self.inside.changes c.if-n-self.true c.self.invariant.within)))

pub returns-then-n-self-clause-missing : goal.returns-then-n-self-clause-missing
returns-then-n-self-clause-missing g c = rw (← c.self.view_is) (λ _. facts.past_is c.args.n c.self.invariant c.if-n-self.true, λ _. search rules)

pub returns-in-Some-clause-page : goal.returns-in-Some-clause-page
returns-in-Some-clause-page g c = rw (← c.self.view_is)
    (facts.held_is _ c.args.n c.in-Some.held.now c.self.invariant c.if-n-self.false (sym c.get.ensures ∙ ap option_copied c.in-Some.is))

pub returns-in-Some-clause-there : goal.returns-in-Some-clause-there
returns-in-Some-clause-there g c = rw (← c.self.view_is) (facts.there_is c.args.n c.self.invariant c.if-n-self.false)

pub returns-in-Some-clause-missing : goal.returns-in-Some-clause-missing
returns-in-Some-clause-missing g c = rw (← c.self.view_is)
    (λ bad. absurd (search (rules, bad)), λ past. absurd (facts.not_past c.args.n c.self.invariant c.if-n-self.false past))

pub returns-clause-held : goal.returns-clause-held
returns-clause-held g c = rw (← c.self.view_is)
    (λ held. absurd (held (facts.not_held c.args.n c.self.inside.changes (sym c.get.ensures ∙ ap option_copied c.in_default.is))))

pub returns-clause-page : goal.returns-clause-page
returns-clause-page g c = rw (← c.self.view_is)
    (facts.page_read c.args.n c.read_into.new.page c.read_into.result c.self.invariant c.if-n-self.false
    (sym c.get.ensures ∙ ap option_copied c.in_default.is) c.read_into.ensures.page)

pub returns-clause-there : goal.returns-clause-there
returns-clause-there g c = rw (← c.self.view_is) (facts.is_in c.read_into.result _ (facts.there_is c.args.n c.self.invariant c.if-n-self.false))

pub returns-clause-missing : goal.returns-clause-missing
returns-clause-missing g c = rw (← c.self.view_is) (
  λ none. absurd (facts.not_missing c.args.n c.self.invariant c.if-n-self.false
      (sym c.get.ensures ∙ ap option_copied c.in_default.is) (c.read_into.ensures.missing none)),
  λ past. absurd (facts.not_past c.args.n c.self.invariant c.if-n-self.false past),
)
