use Rattle.std.proofs.Common.{refl}
use Rattle.ub_journal.specs.Crash.{TearsMark, with_mark}
use Rattle.ub_journal.proofs.TornFacts.{no_mark, torn_shows, torn_steps}
use Rattle.ub_journal.proofs.torn.TornPlacePlace.mark.Goals as goal

pub returns-clause-written : goal.returns-clause-written
returns-clause-written c = torn_shows c.note.ensures.notes with_mark (λ i. refl)

pub returns-clause-effect : goal.returns-clause-effect
returns-clause-effect c = torn_steps c.note.ensures.notes TearsMark no_mark (λ i d tears. tears)
