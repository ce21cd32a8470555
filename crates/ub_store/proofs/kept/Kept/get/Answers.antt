use Rattle.ub_store.proofs.Lookups as facts
use Rattle.ub_store.proofs.kept.Kept.get.Goals as goal

pub returns-in-Some-peek : goal.returns-in-Some-peek
returns-in-Some-peek c = rw (c.deref.ensures, ← c.self.view_is) (facts.get_found c.args.n c.self.inside.pages.entries c.in-Some-peek.page c.peek.result c.peek.ensures c.in-Some-peek.is)

pub returns-in-None : goal.returns-in-None
returns-in-None c = rw (← c.self.view_is) (facts.get_none c.args.n c.self.inside.pages.entries c.peek.result c.peek.ensures c.in-None.is)
