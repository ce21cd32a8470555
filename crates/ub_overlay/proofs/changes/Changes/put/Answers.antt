use Rattle.std.proofs.Common.{◌∙◌, ap}
use Rattle.ub_overlay.specs.Changes.{change, held_from, put_change}
use Rattle.ub_overlay.proofs.SlotFacts as facts
use Rattle.ub_overlay.proofs.changes.Changes.put.Goals as goal

pub returns-clause-put : goal.returns-clause-put
returns-clause-put c =
    facts.put_at c.args.n c.in-Ok.page c.reach.new.slots.items c.in_ok-reach.ensures.there
    ∙ ap (λ page. put_change (change c.args.n page) (held_from 0 c.reach.new.slots.items)) c.in-Ok.ensures.ok
    ∙ ap (put_change (change c.args.n c.args.page.now)) (c.in_ok-reach.ensures.held ∙ c.self.view_is ∙ c.write.ensures.kept c.if-write.false)
