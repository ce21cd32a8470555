use Rattle.std.proofs.Common.{◌<◌, ◌^◌, ℕ, subst, sym}
use Rattle.std.proofs.Math.Facts.{Fits-of_lt}
use Rattle.ub_journal_page.proofs.PageFacts.{few_changes}
use Rattle.ub_journal_page.proofs.spelling.changed.Goals as goal

pub overflow_cast-result : goal.overflow_cast-result
overflow_cast-result g c =
    Fits-of_lt (subst (λ (n : ℕ). n < 2 ^ 32) (sym c.changes.ensures) (few_changes (g.J.Tells.told c.args.journal.now) c.requires))
