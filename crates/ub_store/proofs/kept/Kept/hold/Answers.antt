use Rattle.ub_store.proofs.Lookups as facts
use Rattle.ub_store.proofs.kept.Kept.hold.Goals as goal

pub returns-clause-held : goal.returns-clause-held
returns-clause-held c = rw c.in_ok-push.ensures.entries (facts.hold_held c.self.inside.pages c.args.n c.args.page)

pub returns-clause-others : goal.returns-clause-others
returns-clause-others c m page ne h =
    rw (← c.self.view_is) (facts.hold_others c.self.inside.pages c.args.n m c.args.page page ne (rw c.in_ok-push.ensures.entries at h))
