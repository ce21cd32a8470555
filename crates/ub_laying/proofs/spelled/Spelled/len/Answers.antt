use Rattle.std.proofs.Common.{ℕ, List, ap, arith, length}
use Rattle.ub_laying.proofs.SpelledFacts.{length_from}
use Rattle.ub_laying.proofs.spelled.Spelled.len.Goals as goal
use Rattle.ub_laying.specs.Spelled.{spelled}

pub returns : goal.returns
returns c =
    let inside = c.self.inside in
    let same = ap (λ (pages : List (List ℕ)). length pages) c.self.view_is in
    omega (arith, c.len.ensures, inside.held.ok.0, same, length_from (spelled inside.schema.now inside.grown.now) 0 inside.held.items)
