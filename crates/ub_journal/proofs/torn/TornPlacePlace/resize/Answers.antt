use Rattle.std.proofs.Common.{refl}
use Rattle.ub_journal.specs.Crash.{Resizes, with_count}
use Rattle.ub_journal.proofs.TornFacts.{no_size, torn_shows, torn_steps}
use Rattle.ub_journal.proofs.torn.TornPlacePlace.resize.Goals as goal

pub returns-clause-written : goal.returns-clause-written
returns-clause-written c = torn_shows c.note.ensures.notes (with_count c.args.count) (λ i. refl)

pub returns-clause-effect : goal.returns-clause-effect
returns-clause-effect c = torn_steps c.note.ensures.notes (Resizes c.args.count) (no_size c.args.count) (λ i d sized. sized)
