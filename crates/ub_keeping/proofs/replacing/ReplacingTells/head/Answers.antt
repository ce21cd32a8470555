use Rattle.std.proofs.Common.{◌∙◌, sym}
use Rattle.ub_keeping.proofs.MadeFacts.{first_none}
use Rattle.ub_keeping.proofs.replacing.ReplacingTells.head.Goals as goal

pub returns-then-count-eq0 : goal.returns-then-count-eq0
returns-then-count-eq0 g c = first_none (g.Q.Pages.pages c.args.self.now.pages.now) (sym c.count.ensures ∙ c.if-count-eq0.true)
