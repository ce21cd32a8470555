use Rattle.ub_answer.proofs.CutFacts.{cut-wide}
use Rattle.ub_answer.proofs.ResultFacts.{wide_at}
use Rattle.ub_answer.proofs.cells.Cells.width.Goals as goal

pub returns : goal.returns
returns c =
    wide_at c.self.inside.width _ c.args.self.now c.self.view_is (cut-wide c.self.inside.count c.self.inside.width c.self.inside.cells.items c.self.invariant)
