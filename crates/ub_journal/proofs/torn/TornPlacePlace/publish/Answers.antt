use Rattle.std.proofs.Common.{inl, refl}
use Rattle.ub_journal.specs.Crash.{Publishes}
use Rattle.ub_journal.proofs.TornFacts.{torn_publishes, torn_steps}
use Rattle.ub_journal.proofs.torn.TornPlacePlace.publish.Goals as goal

pub returns-clause-published : goal.returns-clause-published
returns-clause-published c = torn_publishes c.note.ensures.notes

pub returns-clause-effect : goal.returns-clause-effect
returns-clause-effect c = torn_steps c.note.ensures.notes Publishes (λ i. inl refl) (λ i d publishes. publishes)
