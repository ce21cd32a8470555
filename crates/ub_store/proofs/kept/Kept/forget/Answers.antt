use Rattle.ub_store.proofs.Lookups as facts
use Rattle.ub_store.proofs.kept.Kept.forget.Goals as goal

pub returns-clause-gone : goal.returns-clause-gone
returns-clause-gone c = rw c.pop.ensures.entries (facts.forget_gone c.args.n c.self.inside.pages.entries c.len-len.ensures.valid.0)

pub returns-clause-others : goal.returns-clause-others
returns-clause-others c m ne = rw (c.pop.ensures.entries, ← c.self.view_is) (facts.forget_others c.args.n m c.self.inside.pages.entries ne)
