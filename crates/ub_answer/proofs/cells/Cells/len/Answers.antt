use Rattle.std.proofs.Common.{length, ap, sym, ◌∙◌}
use Rattle.ub_answer.proofs.CutFacts.{length-cut}
use Rattle.ub_answer.proofs.cells.Cells.len.Goals as goal

pub returns : goal.returns
returns c = sym (length-cut c.self.inside.count c.self.inside.width c.self.inside.cells.items) ∙ ap length c.self.view_is
