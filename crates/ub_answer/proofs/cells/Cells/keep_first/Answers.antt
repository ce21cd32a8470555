use Rattle.std.proofs.Common.{rules, Option, ℕ, take, ap, sym, ◌∙◌}
use Rattle.ub_answer.proofs.CutFacts.{cut-limited}
use Rattle.ub_answer.specs.inner.Cut.{cut}
use Rattle.ub_query.specs.Meaning.{limited}
use Rattle.ub_answer.proofs.cells.Cells.keep_first.Goals as goal

pub returns-in-Some : goal.returns-in-Some
returns-in-Some c =
    let first = cut-limited c.min-self-inside.result c.in-Some.most c.self.inside.count c.self.inside.width c.self.inside.cells.items
    (search rules) c.self.invariant in
    ap (cut c.min-self-inside.result c.self.inside.width) c.truncate.ensures.items ∙ first.1
    ∙ ap (take c.in-Some.most) c.self.view_is ∙ ap (λ (limit : Option ℕ). limited limit c.args.self.now) (sym c.in-Some.is)
