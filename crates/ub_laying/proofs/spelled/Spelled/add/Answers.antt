use Rattle.std.proofs.Common.{◌<◌, ◌∙◌, ◌++◌, ◌∷◌, [], ℕ, List, Some, ap, arith, length, length-append, subst, sym}
use Rattle.ub_laying.proofs.SpelledFacts.{Slot, added_from, length_from}
use Rattle.ub_laying.proofs.spelled.Spelled.add.Goals as goal
use Rattle.ub_laying.specs.Spelled.{pages_from, spelled}

pub invariant_of-self-2 : goal.invariant_of-self-2
invariant_of-self-2 c =
    let inside = c.self.inside in
    let less = subst (λ (pages : List (List ℕ)). length pages < 4294967295) (sym c.self.view_is) c.requires in
    let long = ap (λ (slots : List Slot). length slots) c.in_ok-push.ensures.items ∙ length-append inside.held.items (Some c.in_ok-page.page ∷ []) in
    (c.self.invariant.0, omega (arith, less, long, length_from (spelled inside.schema.now inside.grown.now) 0 inside.held.items))

pub returns-clause-added : goal.returns-clause-added
returns-clause-added c =
    let inside = c.self.inside in
    let spell = spelled inside.schema.now inside.grown.now in
    ap (λ (slots : List Slot). pages_from spell 0 slots) c.in_ok-push.ensures.items ∙ added_from spell 0 inside.held.items c.in_ok-page.page
    ∙ ap (λ (pages : List (List ℕ)). pages ++ c.in_ok-page.page.value ∷ []) c.self.view_is
    ∙ ap (λ (page : List ℕ). c.args.self.now ++ page ∷ []) c.in_ok-page.ensures
