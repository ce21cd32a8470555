use Rattle.ub_store.proofs.Lookups as facts
use Rattle.ub_store.proofs.kept.Kept.demote.Goals as goal

pub returns : goal.returns
returns c m = rw (c.demote.ensures.entries, ← c.self.view_is) (facts.demote_same c.args.n m c.self.inside.pages.entries c.len-len.ensures.valid.0)
