-- The cache that is touched holds what it held, and the store of which a read was asked has the pages that it had.
use Rattle.std.proofs.Common.{◌∙◌, refl, sym}
use Rattle.ub_store.proofs.Lookups.{some_of}
use Rattle.ub_store.proofs.pager.Pager.bring.Goals as goal

pub returns-then-touch-clause-hit : goal.returns-then-touch-clause-hit
returns-then-touch-clause-hit g c = (λ held. refl, λ same. rw (← c.self.view_is) (some_of _ (sym c.touch.ensures.found ∙ c.if-touch.true)))
