use Rattle.ub_store.proofs.Lookups as facts
use Rattle.ub_store.proofs.kept.Kept.latest.Goals as goal

pub returns-in-Some : goal.returns-in-Some
returns-in-Some c = rw (c.deref.ensures, ← c.self.view_is)
    (facts.latest_found c.args.n c.self.inside.pages.entries c.in-Some.number c.in-Some.page c.peek_mru.result c.peek_mru.ensures c.in-Some.is c.if-number-n.true)
