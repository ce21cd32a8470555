use Rattle.ub_store.proofs.Extended.{extended}
use Rattle.ub_store.proofs.pager.Pager.extend.Goals as goal

pub invariant_of-self : goal.invariant_of-self
invariant_of-self g c n page at = extended _ _ c.extend.result c.extend.ensures.effect n page (c.self.invariant n page at)
