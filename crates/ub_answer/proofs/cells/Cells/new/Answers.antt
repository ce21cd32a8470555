use Rattle.ub_answer.proofs.CutFacts.{cut-wide}
use Rattle.ub_answer.proofs.cells.Cells.new.Goals as goal

pub returns-clause-wide : goal.returns-clause-wide
returns-clause-wide c = cut-wide c.args.count c.args.width c.args.cells.items c.requires
