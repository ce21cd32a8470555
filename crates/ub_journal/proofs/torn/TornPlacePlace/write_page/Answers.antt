use Rattle.std.proofs.Common.{refl}
use Rattle.ub_journal.specs.Crash.{TearsPage, with_page}
use Rattle.ub_journal.proofs.TornFacts.{no_page, torn_shows, torn_steps}
use Rattle.ub_journal.proofs.torn.TornPlacePlace.write_page.Goals as goal

pub returns-clause-written : goal.returns-clause-written
returns-clause-written c = torn_shows c.note.ensures.notes (with_page c.args.n c.args.page.now) (λ i. refl)

pub returns-clause-effect : goal.returns-clause-effect
returns-clause-effect c = torn_steps c.note.ensures.notes (TearsPage c.args.n) (no_page c.args.n) (λ i d tears. tears)
