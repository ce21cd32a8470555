use Rattle.std.proofs.Common.{sym, ap, ◌∙◌}
use Rattle.ub_overlay.proofs.OverlayFacts as facts
use Rattle.ub_overlay.proofs.overlay.OverlayPageStore.pages.Goals as goal

pub returns-clause-pages : goal.returns-clause-pages
returns-clause-pages g c = ap (λ v. v.count) c.self.view_is ∙ sym (facts.count_is c.args.self.now)
