use Rattle.std.proofs.Common.{ap, refl}
use Rattle.ub_journal.specs.Crash.{Drafts, with_draft}
use Rattle.ub_journal.specs.Image.{Journal}
use Rattle.ub_journal.proofs.TornFacts.{torn_shows, torn_steps}
use Rattle.ub_journal.proofs.torn.TornPlacePlace.draft.Goals as goal

pub returns-in-Ok-clause-written : goal.returns-in-Ok-clause-written
returns-in-Ok-clause-written g c = torn_shows c.note.ensures.notes (with_draft (g.J.Tells.told c.args.journal.now)) (λ i. ap (λ (j : Journal). with_draft j i) c.in-Ok.ensures)

pub returns-in-Ok-clause-effect : goal.returns-in-Ok-clause-effect
returns-in-Ok-clause-effect g c = torn_steps c.note.ensures.notes Drafts (λ i. refl) (λ i d drafts. drafts)
