use Rattle.std.proofs.Common.{◌∙◌}
use Rattle.ub_store.proofs.Lookups as facts
use Rattle.ub_store.proofs.kept.Kept.touch.Goals as goal

pub returns-clause-found : goal.returns-clause-found
returns-clause-found c = rw (← c.self.view_is) (c.promote.ensures.value ∙ facts.touch_found c.args.n c.self.inside.pages.entries)

pub returns-clause-same : goal.returns-clause-same
returns-clause-same c m = rw (c.promote.ensures.entries, ← c.self.view_is) (facts.touch_same c.args.n m c.self.inside.pages.entries)
