use Rattle.std.proofs.Common.{◌∙◌, rules}
use Rattle.ub_overlay.proofs.SlotFacts as facts
use Rattle.ub_overlay.proofs.changes.Changes.take_first.Goals as goal

pub returns-clause-none : goal.returns-clause-none
returns-clause-none c = rw (c.take.ensures.after, ← c.self.view_is)
    (facts.none_out c.take.result c.self.inside.slots.items _ (search rules) (c.take.ensures.value ∙ c.index_mut.ensures.value))
