use Rattle.std.proofs.Common.{◌∙◌, ap, sym}
use Rattle.std.specs.Option.{option_map}
use Rattle.ub_overlay.proofs.SlotFacts as facts
use Rattle.ub_overlay.proofs.changes.Changes.get.Goals as goal

pub returns-in_err-page : goal.returns-in_err-page
returns-in_err-page c = rw (← c.self.view_is, c.from_residual.ensures)
    (sym (facts.found c.args.n c.self.inside.slots.items ∙ facts.got_none c.self.inside.slots.items c.args.n (rw (← c.deref.ensures.value) c.in_err-page.ensures.lookup.0)))

pub returns-in-Some : goal.returns-in-Some
returns-in-Some c = rw (← c.self.view_is, c.deref-in-Some.ensures)
    (sym (facts.found c.args.n c.self.inside.slots.items
    ∙ facts.got_page c.self.inside.slots.items c.args.n _ _ (rw c.deref.ensures.value at c.in_ok-page.ensures.lookup.0) (rw c.deref.ensures.value at c.in_ok-page.ensures.lookup.1)
    ∙ ap (option_map (λ b. b.value)) c.in-Some.is))

pub returns-in-None : goal.returns-in-None
returns-in-None c = rw (← c.self.view_is)
    (sym (facts.found c.args.n c.self.inside.slots.items
    ∙ facts.got_page c.self.inside.slots.items c.args.n _ _ (rw c.deref.ensures.value at c.in_ok-page.ensures.lookup.0) (rw c.deref.ensures.value at c.in_ok-page.ensures.lookup.1)
    ∙ ap (option_map (λ b. b.value)) c.in-None.is))
