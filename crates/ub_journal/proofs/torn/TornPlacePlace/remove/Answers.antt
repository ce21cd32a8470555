use Rattle.std.proofs.Common.{None, inl, refl}
use Rattle.ub_journal.specs.Crash.{Removes, with_journal}
use Rattle.ub_journal.proofs.TornFacts.{torn_shows, torn_steps}
use Rattle.ub_journal.proofs.torn.TornPlacePlace.remove.Goals as goal

pub returns-clause-written : goal.returns-clause-written
returns-clause-written c = torn_shows c.note.ensures.notes (with_journal None) (λ i. refl)

pub returns-clause-effect : goal.returns-clause-effect
returns-clause-effect c = torn_steps c.note.ensures.notes Removes (λ i. inl refl) (λ i d removes. removes)
