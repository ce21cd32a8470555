use Rattle.std.proofs.Common.{◌-◌, ◌∙◌, ℕ, ap, sym}
use Rattle.ub_keeping.proofs.MadeFacts.{many_changes}
use Rattle.ub_keeping.proofs.replacing.ReplacingTells.changes.Goals as goal

pub returns : goal.returns
returns g c = c.saturating_sub.ensures ∙ ap (λ (n : ℕ). n - 1) c.count.ensures ∙ sym (many_changes (g.Q.Pages.pages c.args.self.now.pages.now))
