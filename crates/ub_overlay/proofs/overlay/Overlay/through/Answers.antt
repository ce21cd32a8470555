use Rattle.ub_journal.specs.Image.{told}
use Rattle.ub_overlay.proofs.ThroughFacts as facts
use Rattle.ub_overlay.proofs.overlay.Overlay.through.Goals as goal

pub invariant_of-result : goal.invariant_of-result
invariant_of-result g c = rw (c.in-Ok.ensures, c.new-changes.ensures, c.new.ensures)
    (facts.through_is c.args.below (g.S.PageStore.facts c.args.below) (told c.args.journal.now) c.requires.some c.requires.others c.requires.complete)

pub returns-in-Ok-clause-pages : goal.returns-in-Ok-clause-pages
returns-in-Ok-clause-pages g c = rw (c.in-Ok.ensures, c.new-changes.ensures, c.new.ensures)
    (facts.through_pages c.args.below (g.S.PageStore.facts c.args.below) (told c.args.journal.now))
