use Rattle.ub_overlay.proofs.JournalFacts as facts
use Rattle.ub_overlay.proofs.overlay.Overlay.into_parts.Goals as goal

pub returns-in-Ok-clause-journal : goal.returns-in-Ok-clause-journal
returns-in-Ok-clause-journal g c = rw (← c.self.view_is) (facts.journal_is _ _ c.self.invariant c.in-Ok.ensures)

pub returns-in-Ok-clause-is_journal : goal.returns-in-Ok-clause-is_journal
returns-in-Ok-clause-is_journal g c = rw (← c.self.view_is) (facts.spells _ _ c.self.invariant c.in-Ok.ensures)
