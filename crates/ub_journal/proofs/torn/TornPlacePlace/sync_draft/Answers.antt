use Rattle.std.proofs.Common.{refl}
use Rattle.ub_journal.specs.Crash.{Stays}
use Rattle.ub_journal.specs.Place.{SameDraft}
use Rattle.ub_journal.proofs.TornFacts.{torn_lasts, torn_steps}
use Rattle.ub_journal.proofs.torn.TornPlacePlace.sync_draft.Goals as goal

pub returns-clause-done : goal.returns-clause-done
returns-clause-done c = torn_lasts c.note.ensures.notes SameDraft (λ i. refl) (λ i d left. left.1)

pub returns-clause-effect : goal.returns-clause-effect
returns-clause-effect c = torn_steps c.note.ensures.notes Stays (λ i. refl) (λ i d left. left.0)
