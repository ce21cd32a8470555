use Rattle.std.proofs.Common.{◌<◌, ◌∙◌, ℕ, List, ap, arith, length, slice_set, subst, sym}
use Rattle.ub_laying.proofs.SpelledFacts.{length_from, set_at}
use Rattle.ub_laying.proofs.spelled.Spelled.set.Goals as goal
use Rattle.ub_laying.specs.Spelled.{spelled}

pub index_mut-requires : goal.index_mut-requires
index_mut-requires c =
    let inside = c.self.inside in
    let there = subst (λ (pages : List (List ℕ)). c.args.n < length pages) (sym c.self.view_is) c.requires in
    omega (arith, there, length_from (spelled inside.schema.now inside.grown.now) 0 inside.held.items, inside.held.ok.0)

pub returns-clause-set : goal.returns-clause-set
returns-clause-set c =
    let inside = c.self.inside in
    set_at (spelled inside.schema.now inside.grown.now) c.args.n inside.held.items c.in_ok-self-inside.field-0 c.args.page.now c.in_ok-self-inside.ensures
    ∙ ap (λ (pages : List (List ℕ)). slice_set pages c.args.n c.args.page.now) c.self.view_is
