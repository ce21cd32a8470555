use Rattle.std.proofs.Common.{length, ap, sym, ◌==◌, ℕ, ◌∙◌}
use Rattle.ub_answer.proofs.CutFacts.{length-cut}
use Rattle.ub_answer.proofs.cells.Cells.is_empty.Goals as goal

pub returns : goal.returns
returns c = ap (λ (n : ℕ). n == 0) (sym (length-cut c.self.inside.count c.self.inside.width c.self.inside.cells.items) ∙ ap length c.self.view_is)
